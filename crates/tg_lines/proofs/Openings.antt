-- The first lines of a text, and what they are.
use Rattle.std.proofs.Common.{◌≡◌, ℕ, zero, suc, ◌+◌, ◌-◌, ◌<◌, ◌≤◌, ◌⊎◌, inl, inr, List, [], ◌∷◌, ◌++◌, length, take, Option, Some, None, refl, sym, ap, ◌∙◌, subst, append_assoc, length-append, arith, ⊎_elim, IfNone, IfSome}
use Rattle.std.proofs.lemmas.List.{append-nil, take-append-le, take-take, length-take-le}
use Rattle.tg_base.specs.Clusters.{Header, IsHeader}
use Rattle.tg_script.specs.Headers.{header_lines, IsFront, IsFirstOutside}
use Rattle.tg_lines.specs.Lines.{lines, TakesLine}
use Rattle.tg_lines.specs.Feeds.{feeds, NoneOutside, TakesFeeds}
use Rattle.tg_lines.specs.Openings.{OnOpens, Opened, Took, IsNoLine, IsOpening, Reached}
use Rattle.tg_lines.proofs.Feeding.{takes_more}
use Rattle.tg_lines.specs.declared.header.Opening.{Opening}
use Rattle.tg_lines.specs.declared.header.Opening.TheVariants.{Opens, Outside}

-- one line more
pub reached_more : (text before after : Option (List ℕ)) (ls : List (List ℕ)) (line : List ℕ) → Reached text before ls → TakesLine before after (Some line) → Reached text after (ls ++ line ∷ [])
reached_more None before after ls line h t = tt
reached_more (Some text) None after ls line h t = absurd h
reached_more (Some text) (Some rest) None ls line h t = t
reached_more (Some text) (Some rest) (Some more) ls line h t = h ∙ ap (λ (xs : List (List ℕ)). ls ++ xs) t ∙ sym (append_assoc ls (line ∷ []) (lines more))

pub reached_none : (text : Option (List ℕ)) (ls : List (List ℕ)) → ls ≡ [] → Reached text text ls
reached_none None ls e = tt
reached_none (Some text) ls e = ap (λ (xs : List (List ℕ)). xs ++ lines text) (sym e)

front_kept : (xs ys : List (List ℕ)) (n : ℕ) → take n ys ≡ take n xs → IsFront xs n → IsFront ys n
front_kept xs ys n e f = record { header = f.header; lawful = f.lawful; same = e ∙ f.same }

take_more : (xs ys : List (List ℕ)) (n : ℕ) → n ≤ length xs → take n (xs ++ ys) ≡ take n xs
take_more xs ys n h = rw take-append-le refl

-- what follows doesn't matter
outside_more : (xs ys : List (List ℕ)) (n : ℕ) → n ≤ length xs → IsFirstOutside xs n → IsFirstOutside (xs ++ ys) n
outside_more xs ys n le h = record {
  before = λ m lt. front_kept xs (xs ++ ys) m (take_more xs ys m (omega arith)) (h.before m lt);
  outside = λ f. h.outside (front_kept (xs ++ ys) xs n (sym (take_more xs ys n le)) f);
}

take_all : (xs : List (List ℕ)) (n : ℕ) → length xs ≤ n → take n xs ≡ xs
take_all [] zero le = refl
take_all [] (suc n) le = refl
take_all (x ∷ xs) zero le = absurd (omega arith)
take_all (x ∷ xs) (suc n) le = ap (λ (ys : List (List ℕ)). x ∷ ys) (take_all xs n (omega arith))

le_or_lt : (m n : ℕ) → (m ≤ n) ⊎ (n < m)
le_or_lt zero n = inl (omega arith)
le_or_lt (suc m) zero = inr (omega arith)
le_or_lt (suc m) (suc n) = ⊎_elim (λ (h : m ≤ n). inl (omega arith)) (λ (h : n < m). inr (omega arith)) (le_or_lt m n)

-- three lines that begin a header are all of it
not_past : (xs : List (List ℕ)) (n : ℕ) → length xs ≤ 3 → 3 < n → IsFirstOutside xs n → ⊥
not_past xs n few past h =
    let f = h.before 3 past in
    let le : 3 ≤ n = omega arith in
    let long : length xs ≤ n = omega arith in
    h.outside (record {
      header = f.header;
      lawful = f.lawful;
      same = take_all xs n long ∙ sym (take_all xs 3 few) ∙ f.same ∙ sym (take_all (header_lines f.header) n le);
    })

few_lines : (xs : List (List ℕ)) (n : ℕ) → length xs ≤ 3 → IsFirstOutside xs n → n ≤ 3
few_lines xs n few h = ⊎_elim (λ (le : n ≤ 3). le) (λ (lt : 3 < n). absurd (not_past xs n few lt h)) (le_or_lt n 3)

-- a line is refused before more is read
pub opened_outside : (text rest : Option (List ℕ)) (ls : List (List ℕ)) (n : ℕ) → Reached text rest ls → length ls ≤ 3 → n ≤ length ls → IsFirstOutside ls n → Opened text rest (Outside n)
opened_outside None rest ls n h few le out = tt
opened_outside (Some text) None ls n h few le out = h
opened_outside (Some text) (Some rest) ls n h few le out =
    let three : n ≤ 3 = omega arith in
    (three, subst (λ (xs : List (List ℕ)). IsFirstOutside xs n) (sym h) (outside_more ls (lines rest) n le out))

-- three lines were read
pub opened_whole : (text rest : Option (List ℕ)) (ls : List (List ℕ)) (o : Opening) → Reached text rest ls → length ls ≡ 3 → IsOpening ls o → Opened text rest o
opened_whole None rest ls o h three is = tt
opened_whole (Some text) None ls o h three is = h
opened_whole (Some text) (Some rest) ls (Opens header) h three is = h ∙ ap (λ (xs : List (List ℕ)). xs ++ lines rest) is
opened_whole (Some text) (Some rest) ls (Outside n) h three is =
    let few : length ls ≤ 3 = omega arith in
    let most : n ≤ 3 = few_lines ls n few is in
    let le : n ≤ length ls = omega arith in
    opened_outside (Some text) (Some rest) ls n h few le is

-- the text ends among them
pub opened_end : (text before after : Option (List ℕ)) (ls : List (List ℕ)) (o : Opening) → Reached text before ls → TakesLine before after None → length ls ≤ 3 → IsOpening ls o → Opened text after o
opened_end None before after ls o h t few is = tt
opened_end (Some text) None after ls o h t few is = absurd h
opened_end (Some text) (Some rest) None ls o h t few is = t
opened_end (Some text) (Some rest) (Some more) ls (Opens header) h t few is =
    h ∙ ap (λ (xs : List ℕ). ls ++ lines xs) t.0 ∙ ap (λ (xs : List ℕ). ls ++ lines xs) (sym t.1) ∙ ap (λ (xs : List (List ℕ)). xs ++ lines more) is
opened_end (Some text) (Some rest) (Some more) ls (Outside n) h t few is =
    let all : lines text ≡ ls = h ∙ ap (λ (xs : List ℕ). ls ++ lines xs) t.0 ∙ append-nil ls in
    (few_lines ls n few is, subst (λ (xs : List (List ℕ)). IsFirstOutside xs n) (sym all) is)

-- what holds of three lines holds where they are a header
pub on_opens : (ls : List (List ℕ)) (o : Opening) (P : Type 0) → IsOpening ls o → (length ls ≡ 3 → P) → OnOpens o P
on_opens ls (Opens h) P is p = p (ap length is)
on_opens ls (Outside n) P is p = tt

-- one line is the first outside
pub not_before : (ls : List (List ℕ)) (m n : ℕ) → n < m → IsFirstOutside ls m → IsFirstOutside ls n → ⊥
not_before ls m n lt h g = g.outside (h.before n lt)

-- no line of a header is outside
pub whole_front : (ls : List (List ℕ)) (h : Header) (n : ℕ) → IsHeader h → ls ≡ header_lines h → IsFirstOutside ls n → ⊥
whole_front ls h n lawful e out = out.outside (record { header = h; lawful = lawful; same = ap (λ (xs : List (List ℕ)). take n xs) e })

-- what is outside among more lines was so among fewer
outside_less : (xs ys : List (List ℕ)) (n : ℕ) → n ≤ length xs → IsFirstOutside (xs ++ ys) n → IsFirstOutside xs n
outside_less xs ys n le h = record {
  before = λ m lt. front_kept (xs ++ ys) xs m (sym (take_more xs ys m (omega arith))) (h.before m lt);
  outside = λ f. h.outside (front_kept xs (xs ++ ys) n (take_more xs ys n le) f);
}

-- Lines of which none before the last is the first outside.
abbrev pub AreClean : List (List ℕ) → Type 0
AreClean ls = (n : ℕ) → n < length ls → IsFirstOutside ls n → ⊥

pub clean_more : (ls : List (List ℕ)) (line : List ℕ) → ((n : ℕ) → n ≤ length ls → IsFirstOutside ls n → ⊥) → AreClean (ls ++ line ∷ [])
clean_more ls line h n lt out =
    let many : length (ls ++ line ∷ []) ≡ length ls + 1 = length-append ls (line ∷ []) in
    let le : n ≤ length ls = omega arith in
    h n le (outside_less ls (line ∷ []) n le out)

-- the last line is outside
last_outside : (ls : List (List ℕ)) (n : ℕ) → AreClean ls → n ≤ length ls → IsFirstOutside ls n → length ls ≡ n
last_outside ls n clean le out = ⊎_elim (λ (h : length ls ≤ n). omega arith) (λ (h : n < length ls). absurd (clean n h out)) (le_or_lt (length ls) n)

pub took_last : (text rest : Option (List ℕ)) (ls : List (List ℕ)) (n : ℕ) → Reached text rest ls → AreClean ls → n ≤ length ls → IsFirstOutside ls n → Took text rest (Outside n)
took_last None rest ls n h clean le out = tt
took_last (Some text) None ls n h clean le out = h
took_last (Some text) (Some rest) ls n h clean le out = (ls, h, inl (last_outside ls n clean le out))

-- three lines were read
pub took_whole : (text rest : Option (List ℕ)) (ls : List (List ℕ)) (o : Opening) → Reached text rest ls → AreClean ls → length ls ≡ 3 → IsOpening ls o → Took text rest o
took_whole None rest ls o h clean three is = tt
took_whole (Some text) None ls o h clean three is = h
took_whole (Some text) (Some rest) ls (Opens header) h clean three is = h ∙ ap (λ (xs : List (List ℕ)). xs ++ lines rest) is
took_whole (Some text) (Some rest) ls (Outside n) h clean three is =
    let few : length ls ≤ 3 = omega arith in
    let most : n ≤ 3 = few_lines ls n few is in
    took_last (Some text) (Some rest) ls n h clean (omega arith) is

-- a header has the line after these
next_outside : (ls : List (List ℕ)) (n : ℕ) → length ls < 3 → IsFirstOutside ls n → length ls + 1 < n → ⊥
next_outside ls n few out past =
    let f = out.before (length ls + 1) past in
    let all : take (length ls + 1) ls ≡ ls = take_all ls (length ls + 1) (omega arith) in
    let many : length ls ≡ length (take (length ls + 1) (header_lines f.header)) = ap length (sym all ∙ f.same) in
    let taken : length (take (length ls + 1) (header_lines f.header)) ≡ length ls + 1 = length-take-le (length ls + 1) (header_lines f.header) (omega arith) in
    omega arith

-- the text ends among them
pub took_end : (text before after : Option (List ℕ)) (ls : List (List ℕ)) (o : Opening) → Reached text before ls → TakesLine before after None → ((n : ℕ) → n ≤ length ls → IsFirstOutside ls n → ⊥) → length ls < 3 → IsOpening ls o → Took text after o
took_end None before after ls o h t clean few is = tt
took_end (Some text) None after ls o h t clean few is = absurd h
took_end (Some text) (Some rest) None ls o h t clean few is = t
took_end (Some text) (Some rest) (Some more) ls (Opens header) h t clean few is =
    h ∙ ap (λ (xs : List ℕ). ls ++ lines xs) t.0 ∙ ap (λ (xs : List ℕ). ls ++ lines xs) (sym t.1) ∙ ap (λ (xs : List (List ℕ)). xs ++ lines more) is
took_end (Some text) (Some rest) (Some more) ls (Outside n) h t clean few is =
    let all : lines text ≡ ls ++ lines more = h ∙ ap (λ (xs : List ℕ). ls ++ lines xs) (t.0 ∙ sym t.1) in
    let above : length ls < n = ⊎_elim (λ (le : n ≤ length ls). absurd (clean n le is)) (λ (lt : length ls < n). lt) (le_or_lt n (length ls)) in
    let below : n ≤ length ls + 1 = ⊎_elim (λ (le : n ≤ length ls + 1). le) (λ (lt : length ls + 1 < n). absurd (next_outside ls n few is lt)) (le_or_lt n (length ls + 1)) in
    (ls, all, inr (t.1, omega arith))

-- none was refused of those so far
pub unrefused : (r : Option ℕ) (ls : List (List ℕ)) → ((n : ℕ) → r ≡ Some n → ⊥) → IfNone r ((n : ℕ) → n ≤ length ls → IsFirstOutside ls n → ⊥) → (n : ℕ) → n ≤ length ls → IsFirstOutside ls n → ⊥
unrefused None ls not h = h
unrefused (Some n) ls not h = absurd (not n refl)

-- the source failed after these lines, none of which is outside
pub header_first : (text rest left : Option (List ℕ)) (ls : List (List ℕ)) → Reached text rest ls → length ls ≤ 3 → ((n : ℕ) → n ≤ length ls → IsFirstOutside ls n → ⊥) → TakesFeeds (length ls) text rest → TakesFeeds 0 rest left
    → IfSome text (λ t. NoneOutside t left (IsNoLine (lines t)))
header_first None rest left ls h three none f g = tt
header_first (Some text) None left ls h three none f g = absurd h
header_first (Some text) (Some rest) None ls h three none f g = g
header_first (Some text) (Some rest) (Some left) ls h three none f g =
    let k : length ls + 0 ≤ length ls = omega arith in
    let all = takes_more (Some text) (Some rest) (Some left) (length ls) 0 (length ls) k f g in
    let few : feeds all.0 ≤ length ls = all.2 in (
      all.0,
      all.1,
      λ n le is. ⊎_elim (λ (past : 3 < n). absurd (omega (arith, past, le, few, three))) (λ (out : IsFirstOutside (lines text) n).
          let here : n ≤ length ls = omega (arith, le, few) in
          none n here (outside_less ls (lines rest) n here (subst (λ (xs : List (List ℕ)). IsFirstOutside xs n) h out))) is,
    )

header_within : (h : Header) (xs : List (List ℕ)) (n : ℕ) → n ≤ 3 → take n (header_lines h ++ xs) ≡ take n (header_lines h)
header_within h xs n le = take_more (header_lines h) xs n le

less_front : (xs ys : List (List ℕ)) (m n : ℕ) → m ≤ n → take n xs ≡ take n ys → take m xs ≡ take m ys
less_front xs ys m n le e = sym (take-take m n xs le) ∙ ap (λ (ls : List (List ℕ)). take m ls) e ∙ take-take m n ys le

-- lines that begin as a text with this header, up to one that no header has there
pub no_line : (ls more : List (List ℕ)) (h : Header) (n : ℕ) → IsHeader h → 1 ≤ n → take (n - 1) ls ≡ take (n - 1) (header_lines h ++ more) → (IsFront ls n → ⊥) → IsNoLine ls n
no_line ls more h n lawful some begins out = ⊎_elim
    (λ (le : n ≤ 3). inr (record {
      before = λ m lt. record {
        header = h;
        lawful = lawful;
        same = less_front ls (header_lines h ++ more) m (n - 1) (omega (arith, lt)) begins ∙ header_within h more m (omega (arith, lt, le));
      };
      outside = out;
    }))
    (λ (lt : 3 < n). inl lt)
    (le_or_lt n 3)

-- where what is outside in one sense is outside in another too
pub none_outside : (text : List ℕ) (left : Option (List ℕ)) (P Q : ℕ → Type 0) → ((n : ℕ) → Q n → P n) → NoneOutside text left P → NoneOutside text left Q
none_outside text None P Q f h = h
none_outside text (Some left) P Q f (came, cut, none) = (came, cut, λ n le q. none n le (f n q))
