-- The lists of a sequencer.
use Rattle.std.proofs.Common.{◌≡◌, ◌⊎◌, ℕ, ◌+◌, ◌<◌, ◌≤◌, List, [], ◌∷◌, length, Bool, true, false, refl, sym, ap, ◌∙◌, subst, inl, inr, arith, map, filter, cond, Option, Some, None}
use Rattle.std.specs.Prelude.{nat_lt, ◌||◌, ◌==◌, max, take, Contains, if◌then◌else◌}
use Rattle.std.specs.List.{list_any}
use Rattle.std.proofs.lemmas.Bool.Decides.{nat_tests}
use Rattle.tg_base.specs.declared.cell.Cell.{Cell}
use Rattle.tg_base.specs.declared.cell.Cell.TheVariants.{Junk, Data}
use Rattle.tg_base.specs.declared.ids.Oid.{Oid}
use Rattle.tg_base.specs.declared.marks.StreamLink.{StreamLink}
use Rattle.tg_entry.specs.declared.entry.Entry.{Entry}
use Rattle.tg_protocol.specs.Words.{cell_at, where_true}
use Rattle.tg_base.specs.Orders.{oid_eq}
use Rattle.tg_protocol.specs.Entries.{link_of, backs_of, backs_in, lists, unlinked, oid_of_link}
use Rattle.tg_protocol.specs.Pages.{entry_of, entry_in, cell_entry}
use Rattle.tg_protocol.specs.Sequencers.{pushed, choose, with_position, with_positions, entry_streams, cell_streams, links_of, link_or_new}
use Rattle.tg_protocol.specs.Walking.{listed, pointers_at}
use Rattle.tg_protocol.specs.Logs.{Log, entry_at}
use Rattle.tg_law_walks.specs.Walks.Streams.{entry_lists, stands_in, AreFalling, told_to, IsListBelow, IsGood}
use Rattle.tg_law_walks.specs.Walks.Lists.{backs, AreOnce, ListsGrow, LinksGood, OwnLinksGood, NoneIn, IsScanned, ScansBegin, ScansGoOn, ScansJump, ScansEnd}
use Rattle.tg_law_walks.proofs.Walks.Members.{Has, has_contained, contained_has, contrary, lt_of, not_lt, same_oid, oid_itself}

-- Links.

push_here : (p : ℕ) (o : Oid) (ls : List StreamLink) → backs o (with_position p o ls) ≡ take 4 (p ∷ backs o ls)
push_here p o [] = ap (λ (b : Bool). backs_of (if b then Some (pushed p (unlinked o)) else None)) (oid_itself o)
push_here p o (k ∷ ls) = by (oid_eq k.oid o) refl (push_here p o ls)
  where
    by : (b : Bool) → oid_eq k.oid o ≡ b → backs o (with_position p o ls) ≡ take 4 (p ∷ backs o ls) → backs o (choose b (pushed p k ∷ ls) (k ∷ with_position p o ls)) ≡ take 4 (p ∷ backs_of (if b then Some k else link_of o ls))
    by true e rest = ap (λ (b : Bool). backs_of (if b then Some (pushed p k) else link_of o ls)) e
    by false e rest = ap (λ (b : Bool). backs_of (if b then Some k else link_of o (with_position p o ls))) e ∙ rest

push_other : (p : ℕ) (o q : Oid) (ls : List StreamLink) → oid_eq o q ≡ false → backs q (with_position p o ls) ≡ backs q ls
push_other p o q [] a = ap (λ (b : Bool). backs_of (if b then Some (pushed p (unlinked o)) else None)) a
push_other p o q (k ∷ ls) a = by (oid_eq k.oid o) refl (push_other p o q ls a)
  where
    apart : oid_eq k.oid o ≡ true → oid_eq k.oid q ≡ false
    apart e = ap (λ (y : Oid). oid_eq y q) (same_oid k.oid o e) ∙ a

    by : (b : Bool) → oid_eq k.oid o ≡ b → backs q (with_position p o ls) ≡ backs q ls → backs q (choose b (pushed p k ∷ ls) (k ∷ with_position p o ls)) ≡ backs q (k ∷ ls)
    by true e rest = ap (λ (b : Bool). backs_of (if b then Some (pushed p k) else link_of q ls)) (apart e) ∙ ap (λ (b : Bool). backs_of (if b then Some k else link_of q ls)) (sym (apart e))
    by false e rest = skip (oid_eq k.oid q)
      where
        skip : (b : Bool) → backs_of (if b then Some k else link_of q (with_position p o ls)) ≡ backs_of (if b then Some k else link_of q ls)
        skip true = refl
        skip false = rest

-- pushed once, or not at all
abbrev Pushed : ℕ → Oid → List Oid → List StreamLink → Type 0
Pushed p o os ls = ((backs o (with_positions p os ls) ≡ take 4 (p ∷ backs o ls)) × Has os o) ⊎ ((backs o (with_positions p os ls) ≡ backs o ls) × (Has os o → ⊥))

pushes : (p : ℕ) (o : Oid) (os : List Oid) (ls : List StreamLink) → AreOnce os → Pushed p o os ls
pushes p o [] ls h = inr (refl, λ i. i)
pushes p o (k ∷ os) ls h = by (oid_eq k o) refl (pushes p o os (with_position p k ls) h.1)
  where
    here : k ≡ o → Pushed p o os (with_position p k ls) → Pushed p o (k ∷ os) ls
    here e (inl i) = absurd (h.0 (subst (λ y. Contains os y) (sym e) (contained_has os o i.1)))
    here e (inr i) = inl (i.0 ∙ (ap (λ y. backs o (with_position p y ls)) e ∙ push_here p o ls), inl (sym e))

    none : oid_eq k o ≡ false → (Has os o → ⊥) → Has (k ∷ os) o → ⊥
    none a f (inl e) = contrary (oid_eq k o) a (ap (oid_eq k) e ∙ oid_itself k)
    none a f (inr i) = f i

    there : oid_eq k o ≡ false → Pushed p o os (with_position p k ls) → Pushed p o (k ∷ os) ls
    there a (inl i) = inl (i.0 ∙ ap (λ ps. take 4 (p ∷ ps)) (push_other p k o ls a), inr i.1)
    there a (inr i) = inr (i.0 ∙ push_other p k o ls a, none a i.1)

    by : (b : Bool) → oid_eq k o ≡ b → Pushed p o os (with_position p k ls) → Pushed p o (k ∷ os) ls
    by true e i = here (same_oid k o e) i
    by false e i = there e i

-- One position more.

falls_more : (x y : ℕ) (ps : List ℕ) → x ≤ y → AreFalling x ps → AreFalling y ps
falls_more x y [] le h = tt
falls_more x y (p ∷ ps) le h = let less = h.0 in (omega (arith, less, le), h.1)

module _ (l : Log) (o : Oid) (x : ℕ) where
  told_less : (y : ℕ) (ps : List ℕ) → told_to l o false y ps ≤ told_to l o true y ps
  told_less y [] = omega arith
  told_less y (p ∷ ps) = by (stands_in l o p) (told_less p ps)
    where
      by : (b : Bool) → told_to l o false p ps ≤ told_to l o true p ps → (if b then p else told_to l o false p ps) ≤ (if b then p else told_to l o true p ps)
      by true le = omega arith
      by false le = le

  -- down to the last of three
  told_three : (a b c : ℕ) → b < a → c < b → c ≤ told_to l o true x (a ∷ b ∷ c ∷ [])
  told_three a b c less more = by (stands_in l o a) (stands_in l o b) (stands_in l o c)
    where
      by : (s t u : Bool) → c ≤ (if s then a else (if t then b else (if u then c else c)))
      by true t u = omega (arith, less, more)
      by false true u = omega (arith, more)
      by false false true = omega arith
      by false false false = omega arith

  told_four : (a b c d : ℕ) → d < c → told_to l o true x (a ∷ b ∷ c ∷ d ∷ []) ≤ told_to l o true x (a ∷ b ∷ c ∷ [])
  told_four a b c d less = by (stands_in l o a) (stands_in l o b) (stands_in l o c) (stands_in l o d)
    where
      by : (s t u v : Bool) → (if s then a else (if t then b else (if u then c else (if v then d else d)))) ≤ (if s then a else (if t then b else (if u then c else c)))
      by true t u v = omega arith
      by false true u v = omega arith
      by false false true v = omega arith
      by false false false true = omega (arith, less)
      by false false false false = omega (arith, less)

  -- a position that isn't the stream's
  passes : (ps : List ℕ) → stands_in l o x ≡ false → IsGood l o x ps → IsGood l o (x + 1) ps
  passes [] none h = record { falling = tt; all = λ q le less s. h.all q (omega arith) (below q less s) s }
    where
      below : (q : ℕ) → q < x + 1 → stands_in l o q ≡ true → q < x
      below q less s = by (nat_lt q x) refl
        where
          by : (b : Bool) → nat_lt q x ≡ b → q < x
          by true f = lt_of q x f
          by false f = let le = not_lt q x f in let is : q ≡ x = omega (arith, le, less) in contrary (stands_in l o q) (ap (stands_in l o) is ∙ none) s
  passes (p ∷ ps) none h = record { falling = falls_more x (x + 1) (p ∷ ps) (omega arith) h.falling; all = λ q le less s. h.all q le (below q less s) s }
    where
      below : (q : ℕ) → q < x + 1 → stands_in l o q ≡ true → q < x
      below q less s = by (nat_lt q x) refl
        where
          by : (b : Bool) → nat_lt q x ≡ b → q < x
          by true f = lt_of q x f
          by false f = let le = not_lt q x f in let is : q ≡ x = omega (arith, le, less) in contrary (stands_in l o q) (ap (stands_in l o) is ∙ none) s

  -- what follows a position that was put first
  abbrev Rest : Bool → List ℕ → Type 0
  Rest four ps = (q : ℕ) → told_to l o four x ps ≤ q → q < x → stands_in l o q ≡ true → Contains ps q

  first : (four : Bool) (ps : List ℕ) → AreFalling x ps → Rest four ps → IsListBelow l o (x + 1) four (x ∷ ps)
  first four ps falls rest = record { falling = (omega arith, falls); all = λ q le less s. by q le less s }
    where
      told : (b : Bool) → stands_in l o x ≡ b → (q : ℕ) → (if b then x else told_to l o four x ps) ≤ q → q < x → stands_in l o q ≡ true → Contains (x ∷ ps) q
      told true e q le less s = absurd (omega (arith, le, less))
      told false e q le less s = contained_has (x ∷ ps) q (inr (has_contained ps q (rest q le less s)))

      by : (q : ℕ) → told_to l o four (x + 1) (x ∷ ps) ≤ q → q < x + 1 → stands_in l o q ≡ true → Contains (x ∷ ps) q
      by q le less s = at (nat_lt q x) refl
        where
          at : (c : Bool) → nat_lt q x ≡ c → Contains (x ∷ ps) q
          at true f = told (stands_in l o x) refl q le (lt_of q x f) s
          at false f = let k = not_lt q x f in contained_has (x ∷ ps) q (inl (omega (arith, k, less)))

  put_first : (ps : List ℕ) → length ps ≤ 4 → IsGood l o x ps → IsGood l o (x + 1) (take 4 (x ∷ ps))
  put_first [] le h = first false [] tt h.all
  put_first (a ∷ []) le h = first false (a ∷ []) h.falling h.all
  put_first (a ∷ b ∷ []) le h = first false (a ∷ b ∷ []) h.falling h.all
  put_first (a ∷ b ∷ c ∷ []) le h = first true (a ∷ b ∷ c ∷ []) h.falling (λ q k less s. let t = told_less x (a ∷ b ∷ c ∷ []) in h.all q (omega (arith, t, k)) less s)
  put_first (a ∷ b ∷ c ∷ d ∷ []) le h =
      first true (a ∷ b ∷ c ∷ []) (h.falling.0, (h.falling.1.0, (h.falling.1.1.0, tt)))
      (λ q k less s.
      let t = told_four a b c d h.falling.1.1.1.0 in
      let low = told_three a b c h.falling.1.0 h.falling.1.1.0 in
      contained_has (a ∷ b ∷ c ∷ []) q (three q (omega (arith, low, k)) (has_contained (a ∷ b ∷ c ∷ d ∷ []) q (h.all q (omega (arith, t, k)) less s))))
    where
      three : (q : ℕ) → c ≤ q → Has (a ∷ b ∷ c ∷ d ∷ []) q → Has (a ∷ b ∷ c ∷ []) q
      three q k (inl e) = inl e
      three q k (inr (inl e)) = inr (inl e)
      three q k (inr (inr (inl e))) = inr (inr (inl e))
      three q k (inr (inr (inr (inl e)))) = let less = h.falling.1.1.1.0 in absurd (omega (arith, e, less, k))
      three q k (inr (inr (inr (inr i)))) = absurd i
  put_first (a ∷ b ∷ c ∷ d ∷ e ∷ ps) le h = absurd (omega (arith, le))

put_short : (x : ℕ) (ps : List ℕ) → length ps ≤ 4 → length (take 4 (x ∷ ps)) ≤ 4
put_short x [] le = omega arith
put_short x (a ∷ []) le = omega arith
put_short x (a ∷ b ∷ []) le = omega arith
put_short x (a ∷ b ∷ c ∷ []) le = omega arith
put_short x (a ∷ b ∷ c ∷ d ∷ ps) le = omega arith

not_there : (b : Bool) → (b ≡ true → ⊥) → b ≡ false
not_there true f = absurd (f refl)
not_there false f = refl

pub lists_grow : ListsGrow
lists_grow l x os ls once all h o = by (pushes x o os ls once)
  where
    by : Pushed x o os ls → IsGood l o (x + 1) (backs o (with_positions x os ls)) × (length (backs o (with_positions x os ls)) ≤ 4)
    by (inl i) =
        subst (λ (ps : List ℕ). IsGood l o (x + 1) ps × (length ps ≤ 4)) (sym i.0) (put_first l o x (backs o ls) (h o).1 (h o).0, put_short x (backs o ls) (h o).1)
    by (inr i) =
        subst (λ (ps : List ℕ). IsGood l o (x + 1) ps × (length ps ≤ 4)) (sym i.0)
        (passes l o x (backs o ls) (not_there (stands_in l o x) (λ s. i.1 (has_contained os o (all o s)))) (h o).0, (h o).1)

-- What is told of some streams.

some_link : (a b : StreamLink) → Some a ≡ Some b → a ≡ b
some_link a b e = cc

found_oid : (k : Oid) (ls : List StreamLink) (y : StreamLink) → link_of k ls ≡ Some y → y.oid ≡ k
found_oid k [] y e = absurd (cc)
found_oid k (z ∷ ls) y e = by (oid_eq z.oid k) refl e (λ f. found_oid k ls y f)
  where
    by : (b : Bool) → oid_eq z.oid k ≡ b → (if b then Some z else link_of k ls) ≡ Some y → (link_of k ls ≡ Some y → y.oid ≡ k) → y.oid ≡ k
    by true t f rest = ap (λ (v : StreamLink). v.oid) (sym (some_link z y f)) ∙ same_oid z.oid k t
    by false t f rest = rest f

new_oid : (k : Oid) (ls : List StreamLink) (x : Option StreamLink) → link_of k ls ≡ x → (link_or_new k x).oid ≡ k
new_oid k ls None e = refl
new_oid k ls (Some y) e = found_oid k ls y e

same_backs : (k : Oid) (x : Option StreamLink) → (link_or_new k x).backs ≡ backs_of x
same_backs k None = refl
same_backs k (Some y) = refl

told_of : (os : List Oid) (ls : List StreamLink) (o : Oid) → Has os o → backs o (links_of ls os) ≡ backs o ls
told_of [] ls o i = absurd i
told_of (k ∷ os) ls o i = by (oid_eq k o) refl i (λ j. told_of os ls o j)
  where
    test : (b : Bool) → oid_eq k o ≡ b → backs o (links_of ls (k ∷ os)) ≡ backs_of (if b then Some (link_or_new k (link_of k ls)) else link_of o (links_of ls os))
    test b e = ap (λ (c : Bool). backs_of (if c then Some (link_or_new k (link_of k ls)) else link_of o (links_of ls os))) (ap (λ (y : Oid). oid_eq y o) (new_oid k ls (link_of k ls) refl) ∙ e)

    by : (b : Bool) → oid_eq k o ≡ b → Has (k ∷ os) o → (Has os o → backs o (links_of ls os) ≡ backs o ls) → backs o (links_of ls (k ∷ os)) ≡ backs o ls
    by true e j rest = test true e ∙ (same_backs k (link_of k ls) ∙ ap (λ (y : Oid). backs y ls) (same_oid k o e))
    by false e (inl s) rest = contrary (oid_eq k o) e (ap (oid_eq k) s ∙ oid_itself k)
    by false e (inr j) rest = test false e ∙ rest j

pub links_good : LinksGood
links_good l x os ls o i h = subst (IsGood l o x) (sym (told_of os ls o (has_contained os o i))) (h o).0

-- A scan.

stream_link : (ls : List StreamLink) (o : Oid) → list_any (λ (k : StreamLink). oid_eq k.oid o) ls ≡ true → Has (map oid_of_link ls) o
stream_link [] o h = absurd (cc)
stream_link (k ∷ ls) o h = by (oid_eq k.oid o) refl h (λ t. stream_link ls o t)
  where
    by : (b : Bool) → oid_eq k.oid o ≡ b → (b || list_any (λ (j : StreamLink). oid_eq j.oid o) ls) ≡ true → (list_any (λ (j : StreamLink). oid_eq j.oid o) ls ≡ true → Has (map oid_of_link ls) o) → Has (map oid_of_link (k ∷ ls)) o
    by true e t rest = inl (sym (same_oid k.oid o e))
    by false e t rest = inr (rest t)

link_stream : (ls : List StreamLink) (o : Oid) → Has (map oid_of_link ls) o → list_any (λ (k : StreamLink). oid_eq k.oid o) ls ≡ true
link_stream [] o h = absurd h
link_stream (k ∷ ls) o (inl e) = ap (λ (b : Bool). b || list_any (λ (j : StreamLink). oid_eq j.oid o) ls) (ap (λ (y : Oid). oid_eq y o) (sym e) ∙ oid_itself o)
link_stream (k ∷ ls) o (inr i) = or_on (oid_eq k.oid o) (list_any (λ (j : StreamLink). oid_eq j.oid o) ls) (link_stream ls o i)
  where
    or_on : (a b : Bool) → b ≡ true → (a || b) ≡ true
    or_on true b e = refl
    or_on false b e = e

-- the streams of the log's cell at a position
stands_stream : (l : Log) (x : ℕ) (c : Cell) (o : Oid) → cell_at l x ≡ Some c → stands_in l o x ≡ true → Has (cell_streams c) o
stands_stream l x c o e s = by c (sym (ap (λ y. entry_lists o (cell_entry y)) e) ∙ s)
  where
    entry : (d : Option Entry) → entry_lists o d ≡ true → Has (entry_streams d) o
    entry None t = absurd (cc)
    entry (Some n) t = stream_link n.head.streams o t

    by : (y : Cell) → entry_lists o (entry_in y) ≡ true → Has (cell_streams y) o
    by Junk t = absurd (cc)
    by (Data d) t = entry (entry_of d) t

stream_stands : (l : Log) (x : ℕ) (c : Cell) (o : Oid) → cell_at l x ≡ Some c → Has (cell_streams c) o → stands_in l o x ≡ true
stream_stands l x c o e i = ap (λ y. entry_lists o (cell_entry y)) e ∙ by c i
  where
    entry : (d : Option Entry) → Has (entry_streams d) o → entry_lists o d ≡ true
    entry None t = absurd t
    entry (Some n) t = link_stream n.head.streams o t

    by : (y : Cell) → Has (cell_streams y) o → entry_lists o (entry_in y) ≡ true
    by Junk t = absurd t
    by (Data d) t = entry (entry_of d) t

none_more : (l : Log) (o : Oid) (a x : ℕ) → stands_in l o x ≡ false → NoneIn l o a x → NoneIn l o a (x + 1)
none_more l o a x away none q le less s = by (nat_lt q x) refl
  where
    by : (b : Bool) → nat_lt q x ≡ b → ⊥
    by true f = none q le (lt_of q x f) s
    by false f = let k = not_lt q x f in let is : q ≡ x = omega (arith, k, less) in contrary (stands_in l o q) (ap (stands_in l o) is ∙ away) s

scanned_past : (l : Log) (o : Oid) (g x : ℕ) (ps : List ℕ) → stands_in l o x ≡ false → IsScanned l o g x ps → IsScanned l o g (x + 1) ps
scanned_past l o g x [] away h = none_more l o g x away h
scanned_past l o g x (p ∷ ps) away h = (h.0, none_more l o (max g (p + 1)) x away h.1, falls_more x (x + 1) (p ∷ ps) (omega arith) h.2)

falls_of : (l : Log) (o : Oid) (g x : ℕ) (ps : List ℕ) → IsScanned l o g x ps → AreFalling x ps
falls_of l o g x [] h = tt
falls_of l o g x (p ∷ ps) h = h.2

falls_first : (x : ℕ) (ps : List ℕ) → length ps ≤ 4 → AreFalling x ps → (rs : List ℕ) × (take 4 (x ∷ ps) ≡ x ∷ rs) × AreFalling x rs
falls_first x [] le h = ([], refl, tt)
falls_first x (a ∷ []) le h = (a ∷ [], refl, h)
falls_first x (a ∷ b ∷ []) le h = (a ∷ b ∷ [], refl, h)
falls_first x (a ∷ b ∷ c ∷ []) le h = (a ∷ b ∷ c ∷ [], refl, h)
falls_first x (a ∷ b ∷ c ∷ d ∷ ps) le h = (a ∷ b ∷ c ∷ [], refl, (h.0, (h.1.0, (h.1.1.0, tt))))

scanned_here : (l : Log) (o : Oid) (g x : ℕ) (ps : List ℕ) → length ps ≤ 4 → stands_in l o x ≡ true → AreFalling x ps → IsScanned l o g (x + 1) (take 4 (x ∷ ps))
scanned_here l o g x ps le s h =
    let k = falls_first x ps le h in subst (IsScanned l o g (x + 1)) (sym k.1) (s, (λ q a b t. nothing q a b), (omega arith, k.2))
  where
    nothing : (q : ℕ) → max g (x + 1) ≤ q → q < x + 1 → ⊥
    nothing q a b = omega (arith, a, b)

pub scans_go_on : ScansGoOn
scans_go_on l g x c ls e once h o = by (pushes x o (cell_streams c) ls once)
  where
    by : Pushed x o (cell_streams c) ls → IsScanned l o g (x + 1) (backs o (with_positions x (cell_streams c) ls)) × (length (backs o (with_positions x (cell_streams c) ls)) ≤ 4)
    by (inl i) =
        subst (λ (ps : List ℕ). IsScanned l o g (x + 1) ps × (length ps ≤ 4)) (sym i.0)
        (scanned_here l o g x (backs o ls) (h o).1 (stream_stands l x c o e i.1) (falls_of l o g x (backs o ls) (h o).0), put_short x (backs o ls) (h o).1)
    by (inr i) =
        subst (λ (ps : List ℕ). IsScanned l o g (x + 1) ps × (length ps ≤ 4)) (sym i.0)
        (scanned_past l o g x (backs o ls) (not_there (stands_in l o x) (λ s. i.1 (stands_stream l x c o e s))) (h o).0, (h o).1)

pub scans_jump : ScansJump
scans_jump l g x b ls le h o = (by (backs o ls) (h o).0, (h o).1)
  where
    by : (ps : List ℕ) → IsScanned l o g x ps → IsScanned l o b b ps
    by [] k = λ q a c s. omega (arith, a, c)
    by (p ∷ ps) k = (k.0, (λ q a c s. past q p a c), falls_more x b (p ∷ ps) le k.2)
      where
        past : (q p : ℕ) → max b (p + 1) ≤ q → q < b → ⊥
        past q p a c = omega (arith, a, c)

pub scans_end : ScansEnd
scans_end l g x ls safe h o = (by (backs o ls) (h o).0, (h o).1)
  where
    by : (ps : List ℕ) → IsScanned l o g x ps → IsGood l o x ps
    by [] k = record { falling = tt; all = λ q le less s. absurd (none q less s (nat_lt q g) refl) }
      where
        none : (q : ℕ) → q < x → stands_in l o q ≡ true → (b : Bool) → nat_lt q g ≡ b → ⊥
        none q less s true f = let p = safe o q (lt_of q g f) s in k p.0 p.1 p.2 p.3
        none q less s false f = k q (not_lt q g f) less s
    by (p ∷ ps) k = record { falling = k.2; all = λ q le less s. contained_has (p ∷ ps) q (inl (at q (subst (λ (b : Bool). (if b then p else told_to l o (length (p ∷ ps) == 4) p ps) ≤ q) k.0 le) less s (nat_lt p q) refl)) }
      where
        above : (q r : ℕ) → p < q → g ≤ r → q ≤ r → max g (p + 1) ≤ r
        above q r less le more = omega (arith, less, le, more)

        past : (q : ℕ) → p < q → q < x → stands_in l o q ≡ true → (b : Bool) → nat_lt q g ≡ b → ⊥
        past q more less s true f =
            let v = safe o q (lt_of q g f) s in let w = v.1 in let u = lt_of q g f in k.1 v.0 (above q v.0 more w (omega (arith, u, w))) v.2 v.3
        past q more less s false f = k.1 q (above q q more (not_lt q g f) (omega arith)) less s

        at : (q : ℕ) → p ≤ q → q < x → stands_in l o q ≡ true → (b : Bool) → nat_lt p q ≡ b → q ≡ p
        at q le less s true f = absurd (past q (lt_of p q f) less s (nat_lt q g) refl)
        at q le less s false f = let n = not_lt p q f in omega (arith, n, le)

-- An entry's own links.

all_below : (x : ℕ) (ps : List ℕ) → AreFalling x ps → filter (λ b. nat_lt b x) ps ≡ ps
all_below x [] h = refl
all_below x (p ∷ ps) h = ap (λ (b : Bool). cond b (p ∷ filter (λ y. nat_lt y x) ps) (filter (λ y. nat_lt y x) ps)) (is p h.0) ∙ ap (λ (qs : List ℕ). p ∷ qs) (all_below x ps (falls_more p x ps (le p h.0) h.1))
  where
    is : (q : ℕ) → q < x → nat_lt q x ≡ true
    is q less = grind (arith, nat_tests)

    le : (q : ℕ) → q < x → q ≤ x
    le q less = omega (arith, less)

own_if : (l : Log) (o : Oid) (q : ℕ) (b : Bool) (bs ps : List ℕ) → where_true b (filter (λ y. nat_lt y q) bs) ≡ Some ps → (b ≡ true → IsGood l o q bs) → IsGood l o q ps
own_if l o q true bs ps e h = subst (IsGood l o q) (sym (all_below q bs (h refl).falling) ∙ some_list _ ps e) (h refl)
  where
    some_list : (x y : List ℕ) → Some x ≡ Some y → x ≡ y
    some_list x y f = cc
own_if l o q false bs ps e h = absurd (cc)

pub own_links_good : OwnLinksGood
own_links_good l h o q c ps is e = by c (ap cell_entry is) e
  where
    listing : (d : Option Entry) → entry_at l q ≡ d → listed o q d ≡ Some ps → IsGood l o q ps
    listing None f g = absurd (cc)
    listing (Some n) f g = own_if l o q (lists n o) (backs_in n o) ps g (λ t. h o q n f t)

    by : (y : Cell) → entry_at l q ≡ entry_in y → pointers_at o q y ≡ Some ps → IsGood l o q ps
    by Junk f g = absurd (cc)
    by (Data d) f g = listing (entry_of d) f g

pub scans_begin : ScansBegin
scans_begin l o = ((λ q le less s. omega (arith, less)), omega arith)
