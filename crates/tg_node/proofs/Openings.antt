-- The first lines of a node's text, and what they are.
use Rattle.std.proofs.Common.{◌≡◌, ◌⊎◌, ◌↔◌, ℕ, zero, suc, ◌+◌, ◌<◌, ◌≤◌, Bool, true, List, [], ◌∷◌, ◌++◌, length, take, Option, Some, None, Result, Ok, Err, IsTrue, IfNone, IfSome, refl, sym, ap, ◌∙◌, subst, arith, codes, ⊎_elim, inl, inr}
use Rattle.std.specs.Prelude.{nat_lt}
use Rattle.std.proofs.lemmas.Bool.{lt-ltb}
use Rattle.std.proofs.lemmas.Bool.Decides.{nat_tests}
use Rattle.std.proofs.lemmas.Fmt.{decimal_digit}
use Rattle.std.proofs.lemmas.List.{append-nil, take-take}
use Rattle.tg_base.specs.declared.fault.TextFault.{TextFault}
use Rattle.tg_base.specs.declared.fault.TextFault.TheVariants as fault
use Rattle.tg_base.specs.declared.ids.NodeId.{NodeId}
use Rattle.tg_base.specs.declared.ids.Role.{Role}
use Rattle.tg_base.specs.declared.ids.Role.TheVariants as role
use Rattle.tg_base.specs.Units.{is_within}
use Rattle.tg_base.specs.Clusters.{Header, IsHeader, are_chains}
use Rattle.tg_codec.proofs.Laws.{and-left, both}
use Rattle.tg_any.proofs.Fronts.{some_is}
use Rattle.tg_any.specs.Words.{joined}
use Rattle.tg_script.specs.declared.header.Sizes.{Sizes}
use Rattle.tg_script.specs.Headers.{are_sizes, sizes, sizes_of, header_lines, IsFront, IsFirstOutside, OnOutside, sizes_in}
use Rattle.tg_script.specs.Nodes.{count_of, is_declared}
use Rattle.tg_script.proofs.Clusters.{header_sizes, lines_again}
use Rattle.tg_lines.specs.Feeds.{feeds, NoneOutside, TakesFeeds}
use Rattle.tg_lines.specs.Lines.{lines, TakesLine}
use Rattle.tg_lines.specs.Openings.{OnOpens, Reached}
use Rattle.tg_lines.specs.declared.header.Opening.{Opening}
use Rattle.tg_lines.specs.declared.header.Opening.TheVariants.{Opens, Outside}
use Rattle.tg_lines.proofs.Feeding.{takes_more}
use Rattle.tg_node.specs.Texts.{Begins, FirstOutside}
use Rattle.tg_node.specs.Openings.{Opened, IsOpening}
use Rattle.tg_node.proofs.Doing.{take_all}
use Rattle.tg_node.proofs.Stepping.{take_before}

-- The nodes that a first line declares.

same_sizes : (g h : Header) → IsHeader g → IsHeader h → take 1 (header_lines g) ≡ take 1 (header_lines h) → sizes_of g ≡ sizes_of h
same_sizes g h lawful also e = some_is _ _ (sym (lines_again g lawful).first ∙ ap sizes_in e ∙ (lines_again h also).first)

same_counts : (g h : Header) → sizes_of g ≡ sizes_of h → (r : Role) → count_of g r ≡ count_of h r
same_counts g h e role.Unit = ap (λ (s : Sizes). s.units) e
same_counts g h e role.Layout = ap (λ (s : Sizes). s.layouts) e
same_counts g h e role.Seqr = ap (λ (s : Sizes). s.seqs) e
same_counts g h e role.Client = ap (λ (s : Sizes). s.clients) e

same_nodes : (g h : Header) (n : NodeId) → sizes_of g ≡ sizes_of h → is_declared g n ≡ is_declared h n
same_nodes g h n e = ap (λ (count : ℕ). nat_lt n.num count) (same_counts g h e n.role)

-- a header's first line begins a text of each node that it declares, and of no other
pub first_declared : (ls : List (List ℕ)) (n : NodeId) (h : Header) → IsHeader h → take 1 ls ≡ take 1 (header_lines h) → (is_declared h n ≡ true) ↔ Begins ls n 1
first_declared ls n h lawful e = (
  λ d. (record { header = h; lawful = lawful; declared = d; body = []; asked = tt }, e),
  λ b. same_nodes h b.0.header n (same_sizes h b.0.header lawful b.0.lawful (sym e ∙ b.1)) ∙ b.0.declared,
)

-- the first line is all that matters
pub first_alone : (ls : List (List ℕ)) (line : List ℕ) (n : NodeId) (b : Bool) → take 1 ls ≡ line ∷ [] → IsTrue b ↔ Begins (line ∷ []) n 1 → IsTrue b ↔ Begins ls n 1
first_alone ls line n b e h = (
  λ t. let x = h.0 t in (x.0, e ∙ x.1),
  λ x. h.1 (x.0, sym e ∙ x.1),
)

-- The least header with a first line.

one_unit : (units : ℕ) → 0 < units → are_chains units ((0 ∷ []) ∷ []) ≡ true
one_unit units some = both _ _ (both _ _ (both _ _ refl refl) (both _ _ (lt-ltb 0 units some) refl)) refl

some_units : (s : Sizes) → are_sizes s ≡ true → 0 < s.units
some_units s e = let units : is_within 1 64 s.units ≡ true = and-left _ _ (and-left _ _ (and-left _ _ (and-left _ _ e))) in grind (arith, nat_tests)

abbrev least_of : Header → Header
least_of h = record { units = h.units; layouts = h.layouts; seqs = h.seqs; clients = h.clients; limit = h.limit; chains = (0 ∷ []) ∷ []; objects = [] }

least_lawful : (h : Header) → IsHeader h → IsHeader (least_of h)
least_lawful h e = let s = header_sizes h e in both _ _ (both _ _ s (one_unit h.units (some_units (sizes_of h) s))) refl

least_lines : (h : Header) → header_lines (least_of h) ≡ joined (sizes.spell (sizes_of h)) ∷ codes "chains u0" ∷ codes "objects" ∷ []
least_lines h = ap (λ (zero_word : List ℕ). joined (sizes.spell (sizes_of h)) ∷ (codes "chains u" ++ zero_word) ∷ codes "objects" ∷ []) (decimal_digit 0 (omega arith))

first_same : (a b : List ℕ) → ◌≡◌ {A = List (List ℕ)} (a ∷ []) (b ∷ []) → a ≡ b
first_same a b e = cc

-- a line that begins no header begins no text of a node
pub none_begins : (line : List ℕ) (n : NodeId) → ((h : Header) → IsHeader h → line ∷ codes "chains u0" ∷ codes "objects" ∷ [] ≡ header_lines h → ⊥) → Begins (line ∷ []) n 1 → ⊥
none_begins line n none b =
    let h = b.0.header in
    let same : line ≡ joined (sizes.spell (sizes_of h)) = first_same line (joined (sizes.spell (sizes_of h))) b.1 in
    none (least_of h) (least_lawful h b.0.lawful) (ap (λ (l : List ℕ). l ∷ codes "chains u0" ∷ codes "objects" ∷ []) same ∙ sym (least_lines h))

-- The first line outside.

-- the first line doesn't declare the node
pub first_outside : (ls : List (List ℕ)) (n : NodeId) → (Begins ls n 1 → ⊥) → (1 ≤ 3) × FirstOutside ls n 1
first_outside ls n none = (omega arith, record { line = omega arith; before = λ m low lt. absurd (omega (arith, low, lt)); outside = none })

pub le_or_lt : (m n : ℕ) → (m ≤ n) ⊎ (n < m)
le_or_lt zero n = inl (omega arith)
le_or_lt (suc m) zero = inr (omega arith)
le_or_lt (suc m) (suc n) = ⊎_elim (λ (h : m ≤ n). inl (omega arith)) (λ (h : n < m). inr (omega arith)) (le_or_lt m n)

-- three lines that begin a header are all of it
not_past : (ls : List (List ℕ)) (k : ℕ) → length ls ≤ 3 → 3 < k → IsFirstOutside ls k → ⊥
not_past ls k few past out =
    let f = out.before 3 past in
    let le : 3 ≤ k = omega (arith, past) in
    let long : length ls ≤ k = omega (arith, few, past) in
    out.outside (record {
      header = f.header;
      lawful = f.lawful;
      same = take_all ls k long ∙ sym (take_all ls 3 few) ∙ f.same ∙ sym (take_all (header_lines f.header) k le);
    })

few_lines : (ls : List (List ℕ)) (k : ℕ) → length ls ≤ 3 → IsFirstOutside ls k → k ≤ 3
few_lines ls k few out = ⊎_elim (λ (le : k ≤ 3). le) (λ (lt : 3 < k). absurd (not_past ls k few lt out)) (le_or_lt k 3)

some_line : (ls : List (List ℕ)) (k : ℕ) → IsFront ls 0 → IsFirstOutside ls k → 1 ≤ k
some_line ls zero front out = absurd (out.outside front)
some_line ls (suc k) front out = omega arith

-- where the first line declares the node, the first line outside is that of the header
pub header_first : (ls : List (List ℕ)) (n : NodeId) (k : ℕ) → length ls ≤ 3 → Begins ls n 1 → IsFirstOutside ls k → (k ≤ 3) × FirstOutside ls n k
header_first ls n k few b out =
    let most = few_lines ls k few out in (
      most,
      record {
        line = some_line ls k (record { header = b.0.header; lawful = b.0.lawful; same = refl }) out;
        before = λ m low lt.
            let f = out.before m lt in
            let one : take 1 ls ≡ take 1 (header_lines f.header) = sym (take-take 1 m ls low) ∙ ap (λ (x : List (List ℕ)). take 1 x) f.same ∙ take-take 1 m (header_lines f.header) low in
            (record { header = f.header; lawful = f.lawful; declared = (first_declared ls n f.header f.lawful one).1 b; body = []; asked = tt }, f.same);
        outside = λ x. out.outside (record { header = x.0.header; lawful = x.0.lawful; same = x.1 ∙ take_before (header_lines x.0.header) x.0.body k most });
      },
    )

pub fault_first : {A : Type 0} (r : Result A TextFault) (ls : List (List ℕ)) (n : NodeId) → length ls ≤ 3 → Begins ls n 1 → OnOutside r (λ k. IsFirstOutside ls k) → OnOutside r (λ k. (k ≤ 3) × FirstOutside ls n k)
fault_first (Ok x) ls n few b out = tt
fault_first (Err fault.NoMemory) ls n few b out = tt
fault_first (Err (fault.Outside k)) ls n few b out = header_first ls n k few b out

-- where the first line declares the node, its header does
pub header_declares : (ls : List (List ℕ)) (n : NodeId) (h : Header) → IsHeader h → Begins ls n 1 → ls ≡ header_lines h → is_declared h n ≡ true
header_declares ls n h lawful b e = (first_declared ls n h lawful (ap (λ (x : List (List ℕ)). take 1 x) e)).1 b

-- Lines of a text.

-- what follows doesn't matter
outside_more : (xs ys : List (List ℕ)) (n : NodeId) (k : ℕ) → k ≤ length xs → FirstOutside xs n k → FirstOutside (xs ++ ys) n k
outside_more xs ys n k le out = record {
  line = out.line;
  before = λ m low lt. let b = out.before m low lt in let short : m ≤ length xs = omega (arith, le, lt) in (b.0, take_before xs ys m short ∙ b.1);
  outside = λ x. out.outside (x.0, sym (take_before xs ys k le) ∙ x.1);
}

-- a line is refused before more is read
pub opened_outside : (n : NodeId) (text rest : Option (List ℕ)) (ls : List (List ℕ)) (k : ℕ) → Reached text rest ls → length ls ≤ 3 → k ≤ length ls → FirstOutside ls n k → Opened n text rest (Outside k)
opened_outside n None rest ls k h few le out = tt
opened_outside n (Some text) None ls k h few le out = h
opened_outside n (Some text) (Some rest) ls k h few le out =
    let most : k ≤ 3 = omega (arith, few, le) in
    (most, subst (λ (xs : List (List ℕ)). FirstOutside xs n k) (sym h) (outside_more ls (lines rest) n k le out))

-- three lines were read
pub opened_whole : (n : NodeId) (text rest : Option (List ℕ)) (ls : List (List ℕ)) (o : Opening) → Reached text rest ls → length ls ≡ 3 → IsOpening n ls o → Opened n text rest o
opened_whole n None rest ls o h three is = tt
opened_whole n (Some text) None ls o h three is = h
opened_whole n (Some text) (Some rest) ls (Opens header) h three is = (h ∙ ap (λ (xs : List (List ℕ)). xs ++ lines rest) is.0, is.1)
opened_whole n (Some text) (Some rest) ls (Outside k) h three is =
    let most : k ≤ 3 = is.0 in
    opened_outside n (Some text) (Some rest) ls k h (omega (arith, three)) (omega (arith, three, most)) is.1

-- the text ends among them
pub opened_end : (n : NodeId) (text before after : Option (List ℕ)) (ls : List (List ℕ)) (o : Opening) → Reached text before ls → TakesLine before after None → IsOpening n ls o → Opened n text after o
opened_end n None before after ls o h t is = tt
opened_end n (Some text) None after ls o h t is = absurd h
opened_end n (Some text) (Some rest) None ls o h t is = t
opened_end n (Some text) (Some rest) (Some more) ls (Opens header) h t is =
    (h ∙ ap (λ (xs : List ℕ). ls ++ lines xs) t.0 ∙ ap (λ (xs : List ℕ). ls ++ lines xs) (sym t.1) ∙ ap (λ (xs : List (List ℕ)). xs ++ lines more) is.0, is.1)
opened_end n (Some text) (Some rest) (Some more) ls (Outside k) h t is =
    let all : lines text ≡ ls = h ∙ ap (λ (xs : List ℕ). ls ++ lines xs) t.0 ∙ append-nil ls in
    (is.0, subst (λ (xs : List (List ℕ)). FirstOutside xs n k) (sym all) is.1)

-- what holds of three lines holds where these are a header
pub on_opens : (n : NodeId) (ls : List (List ℕ)) (o : Opening) (P : Type 0) → IsOpening n ls o → (length ls ≡ 3 → P) → OnOpens o P
on_opens n ls (Opens h) P is p = p (ap length is.0)
on_opens n ls (Outside k) P is p = tt

-- Lines of which none is outside.

-- one line is the first outside
pub not_before : (ls : List (List ℕ)) (n : NodeId) (j k : ℕ) → j < k → FirstOutside ls n k → FirstOutside ls n j → ⊥
not_before ls n j k lt h g = g.outside (h.before j g.line lt)

pub none_before : (ls : List (List ℕ)) (n : NodeId) (j k : ℕ) → j < k → (k ≤ 3) × FirstOutside ls n k → FirstOutside ls n j → ⊥
none_before ls n j k lt h g = not_before ls n j k lt h.1 g

-- no line of a header that declares the node is outside
pub whole_front : (ls : List (List ℕ)) (n : NodeId) (h : Header) (k : ℕ) → IsHeader h → (ls ≡ header_lines h) × (is_declared h n ≡ true) → k ≤ length ls → FirstOutside ls n k → ⊥
whole_front ls n h k lawful e le out = out.outside (record { header = h; lawful = lawful; declared = e.1; body = []; asked = tt }, ap (λ (xs : List (List ℕ)). take k xs) (e.0 ∙ sym (append-nil (header_lines h))))

-- what is outside among more lines was so among fewer
outside_less : (xs ys : List (List ℕ)) (n : NodeId) (k : ℕ) → k ≤ length xs → FirstOutside (xs ++ ys) n k → FirstOutside xs n k
outside_less xs ys n k le out = record {
  line = out.line;
  before = λ m low lt. let b = out.before m low lt in let short : m ≤ length xs = omega (arith, le, lt) in (b.0, sym (take_before xs ys m short) ∙ b.1);
  outside = λ x. out.outside (x.0, take_before xs ys k le ∙ x.1);
}

pub unrefused : (r : Option ℕ) (ls : List (List ℕ)) (n : NodeId) → ((k : ℕ) → r ≡ Some k → ⊥) → IfNone r ((k : ℕ) → k ≤ length ls → FirstOutside ls n k → ⊥) → (k : ℕ) → k ≤ length ls → FirstOutside ls n k → ⊥
unrefused None ls n not h = h
unrefused (Some k) ls n not h = absurd (not k refl)

-- the source failed after these lines, none of which is outside
pub header_came : (n : NodeId) (text rest left : Option (List ℕ)) (ls : List (List ℕ)) → Reached text rest ls → ((k : ℕ) → k ≤ length ls → FirstOutside ls n k → ⊥) → TakesFeeds (length ls) text rest → TakesFeeds 0 rest left
    → IfSome text (λ t. NoneOutside t left (FirstOutside (lines t) n))
header_came n None rest left ls h none f g = tt
header_came n (Some text) None left ls h none f g = absurd h
header_came n (Some text) (Some rest) None ls h none f g = g
header_came n (Some text) (Some rest) (Some left) ls h none f g =
    let same : length ls + 0 ≤ length ls = omega arith in
    let all = takes_more (Some text) (Some rest) (Some left) (length ls) 0 (length ls) same f g in
    let few : feeds all.0 ≤ length ls = all.2 in (
      all.0,
      all.1,
      λ k le out.
          let here : k ≤ length ls = omega (arith, le, few) in
          none k here (outside_less ls (lines rest) n k here (subst (λ (xs : List (List ℕ)). FirstOutside xs n k) h out)),
    )
