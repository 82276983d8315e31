-- A live run is determined by its script and by the answers that are handed. So a text ends in one way.
use Rattle.std.proofs.Common.{◌≡◌, ◌⊎◌, ◌∙◌, ℕ, zero, suc, ◌+◌, ◌-◌, ◌<◌, ◌≤◌, ◌==◌, Bool, true, false, List, [], ◌∷◌, ◌++◌, length, map, take, drop, Option, Some, None, IfSome, refl, sym, ap, subst, ⊎_elim, inl, inr, arith, append_assoc}
use Rattle.std.proofs.lemmas.Bool.Decides.{nat_tests}
use Rattle.std.proofs.lemmas.List.{length-map}
use Rattle.std.specs.Prelude.{nat_le}
use Rattle.tg_base.specs.Clusters.{Header}
use Rattle.tg_base.specs.declared.fault.Which.{Which}
use Rattle.tg_io.specs.Bytes.{Grows}
use Rattle.tg_io.specs.declared.link.Arrival.{Arrival}
use Rattle.tg_io.specs.declared.status.Status.{Status}
use Rattle.tg_io.specs.declared.status.Status.TheVariants.{Done, Illegal, Words, Script as AtLine, ReadFault, WriteFault, LinkFault, Limit, NoMemory}
use Rattle.tg_protocol.specs.Worlds.{nodes}
use Rattle.tg_lines.specs.Lines.{lines}
use Rattle.tg_any.specs.AllKinds.{all_kinds}
use Rattle.tg_replay.specs.Outcomes.{Told}
use Rattle.tg_replay.specs.Runs.{Script, Tells, Begins, front, line_text, text_lines}
use Rattle.tg_replay.proofs.Exact.{same_front, three_more, begins_less, tells_begins, le_or_lt, head_same, cons_same}
use Rattle.tg_replay.proofs.Scripts.{front_whole}
use Rattle.tg_script.specs.declared.line.Line.{Line}
use Rattle.tg_script.specs.declared.line.Line.TheVariants as line
use Rattle.tg_live.specs.Lives.{Answer, Live, LiveRan, goes, opened, came, received, ticked, Follows, IsDrained, Then, Makes, IsRounds, IsSettled, IsFed, IsLived}
use Rattle.tg_live.specs.Scripts.{Over, IsLiveScript, Replayed, FirstOutside, PrintedBefore, Refused, Limited, PassesLimit, PassesNone}
use Rattle.tg_live.specs.Outcomes.{Written, IsOfLive, IsOrStops}
use Rattle.tg_live.proofs.Promises.{IsUndisturbed, passes}

-- Lists.

same_rest : {A : Type 0} (xs ys zs : List A) → xs ++ ys ≡ xs ++ zs → ys ≡ zs
same_rest [] ys zs e = e
same_rest (x ∷ xs) ys zs e = same_rest xs ys zs (head_same x x (xs ++ ys) (xs ++ zs) e).1

same_after : {A : Type 0} (xs ys more other : List A) → xs ≡ ys → xs ++ more ≡ ys ++ other → more ≡ other
same_after {A} xs ys more other s e = same_rest ys more other (ap (λ (zs : List A). zs ++ more) (sym s) ∙ e)

both_same : {A : Type 0} (xs ys more other : List A) → xs ≡ ys → more ≡ other → xs ++ more ≡ ys ++ other
both_same xs ys more other s e = λ i. s i ++ e i

some_same : {A : Type 0} (x y : A) → Some x ≡ Some y → x ≡ y
some_same x y e = cc

cut_at : {A : Type 0} (k : ℕ) (xs : List A) → take k xs ++ drop k xs ≡ xs
cut_at zero xs = refl
cut_at (suc k) [] = refl
cut_at (suc k) (x ∷ xs) = ap (λ zs. x ∷ zs) (cut_at k xs)

-- a list that is shorter than its front isn't the front of a longer one
too_short : {A : Type 0} (n : ℕ) (xs ys : List A) → take n xs ≡ take n ys → length xs < n → n ≤ length ys → ⊥
too_short zero xs ys e lt le = absurd (omega (arith, lt))
too_short (suc n) xs [] e lt le = absurd (omega (arith, le))
too_short (suc n) [] (y ∷ ys) e lt le = absurd cc
too_short (suc n) (x ∷ xs) (y ∷ ys) e lt le = too_short n xs ys (head_same x y (take n xs) (take n ys) e).1 (omega (arith, lt)) (omega (arith, le))

-- Parts.

-- A part takes a same front of answers that go on alike, and comes to the same end.
record IsDetermined (part : List Answer → Live → LiveRan → Type 0) : Type 0 where
  once : (xs ys more other : List Answer) (l : Live) (end last : LiveRan) → part xs l end → part ys l last → xs ++ more ≡ ys ++ other → (xs ≡ ys) × (end ≡ last)

follows_once : (o : Option Which) (mid : LiveRan) (xs ys : List Answer) (end last : LiveRan) (P Q : Type 0) → (P → Q → (xs ≡ ys) × (end ≡ last)) → Follows o mid xs end P → Follows o mid ys last Q → (xs ≡ ys) × (end ≡ last)
follows_once None mid xs ys end last P Q f p q = f p q
follows_once (Some x) mid xs ys end last P Q f p q = (p.0 ∙ sym q.0, p.1 ∙ sym q.1)

makes_once : (f : Live → LiveRan) → IsDetermined (Makes f)
makes_once f = record { once = λ xs ys more other l end last p q e. (p.0 ∙ sym q.0, p.1 ∙ sym q.1) }

-- how the answers of two parts, one after the other, are dealt
dealt_both : (taken rest more xs : List Answer) → xs ≡ taken ++ rest → taken ++ (rest ++ more) ≡ xs ++ more
dealt_both taken rest more xs e = sym (append_assoc taken rest more) ∙ ap (λ (zs : List Answer). zs ++ more) (sym e)

module _ (first next : List Answer → Live → LiveRan → Type 0) where
  dealt_alike : (xs ys more other : List Answer) (l : Live) (end last : LiveRan) (p : Then first next xs l end) (q : Then first next ys l last) → xs ++ more ≡ ys ++ other → p.taken ++ (p.rest ++ more) ≡ q.taken ++ (q.rest ++ other)
  dealt_alike xs ys more other l end last p q e = dealt_both p.taken p.rest more xs p.dealt ∙ e ∙ sym (dealt_both q.taken q.rest other ys q.dealt)

  then_once : IsDetermined first → IsDetermined next → IsDetermined (Then first next)
  then_once f n = record {
    once = λ xs ys more other l end last p q e.
        let flat = dealt_alike xs ys more other l end last p q e in
        let before = f.once p.taken q.taken (p.rest ++ more) (q.rest ++ other) l p.middle q.middle p.before q.before flat in
        let rest : p.rest ++ more ≡ q.rest ++ other = same_after p.taken q.taken (p.rest ++ more) (q.rest ++ other) before.0 flat in
        let after = subst (λ (m : LiveRan). Follows m.stopped m q.rest last (next q.rest m.live last)) (sym before.1) q.after in
        let end_of = follows_once p.middle.stopped p.middle p.rest q.rest end last (next p.rest p.middle.live end) (next q.rest p.middle.live last) (λ u v. n.once p.rest q.rest more other p.middle.live end last u v rest) p.after after in
        (p.dealt ∙ both_same p.taken q.taken p.rest q.rest before.0 end_of.0 ∙ sym q.dealt, end_of.1);
  }

drained : (xs ys more other : List Answer) (l : Live) (end last : LiveRan) → IsDrained xs l end → IsDrained ys l last → xs ++ more ≡ ys ++ other → (xs ≡ ys) × (end ≡ last)
drained [] [] more other l end last p q e = (refl, p.1 ∙ sym q.1)
drained [] (None ∷ ys) more other l end last p q e = let all : 1000000 ≤ l.received = p.0 in let few : l.received < 1000000 = q.0 in absurd (omega (arith, all, few))
drained [] (Some b ∷ ys) more other l end last p q e = let all : 1000000 ≤ l.received = p.0 in let few : l.received < 1000000 = q.0 in absurd (omega (arith, all, few))
drained (None ∷ xs) [] more other l end last p q e = let few : l.received < 1000000 = p.0 in let all : 1000000 ≤ l.received = q.0 in absurd (omega (arith, all, few))
drained (Some a ∷ xs) [] more other l end last p q e = let few : l.received < 1000000 = p.0 in let all : 1000000 ≤ l.received = q.0 in absurd (omega (arith, all, few))
drained (None ∷ xs) (None ∷ ys) more other l end last p q e = (cons_same None None xs ys refl (p.1 ∙ sym q.1), p.2 ∙ sym q.2)
drained (None ∷ xs) (Some b ∷ ys) more other l end last p q e = absurd cc
drained (Some a ∷ xs) (None ∷ ys) more other l end last p q e = absurd cc
drained (Some a ∷ xs) (Some b ∷ ys) more other l end last p q e =
    let parts = head_same (Some a) (Some b) (xs ++ more) (ys ++ other) e in
    let same : a ≡ b = some_same a b parts.0 in
    let after = subst (λ (x : Arrival). Follows (came (received l x) x.to x.datagram).stopped (came (received l x) x.to x.datagram) ys last (IsDrained ys (came (received l x) x.to x.datagram).live last)) (sym same) q.1 in
    let mid = came (received l a) a.to a.datagram in
    let rest = follows_once mid.stopped mid xs ys end last (IsDrained xs mid.live end) (IsDrained ys mid.live last) (λ u v. drained xs ys more other mid.live end last u v parts.1) p.1 after in
    (cons_same (Some a) (Some b) xs ys parts.0 rest.0, rest.1)

drained_once : IsDetermined IsDrained
drained_once = record { once = drained }

choice_once : (b : Bool) (P Q : List Answer → Live → LiveRan → Type 0) → IsDetermined P → IsDetermined Q → (xs ys more other : List Answer) (l : Live) (end last : LiveRan)
    → (elim b as (λ _. Type 0) [ true ↦ P xs l end | false ↦ Q xs l end ]) → (elim b as (λ _. Type 0) [ true ↦ P ys l last | false ↦ Q ys l last ]) → xs ++ more ≡ ys ++ other → (xs ≡ ys) × (end ≡ last)
choice_once true P Q p q xs ys more other l end last u v e = p.once xs ys more other l end last u v e
choice_once false P Q p q xs ys more other l end last u v e = q.once xs ys more other l end last u v e

-- what follows the ticks of a round
abbrev round_after : ℕ → Live → List Answer → Live → LiveRan → Type 0
round_after n l rest m last = elim (length m.world.packets == length l.world.packets) as (λ _. Type 0) [
  | true ↦ IsDrained rest m last
  | false ↦ Then IsDrained (IsRounds n) rest m last
]

rounds_once : (n : ℕ) → IsDetermined (IsRounds n)
rounds_once zero = record { once = λ xs ys more other l end last p q e. (p.0 ∙ sym q.0, p.1 ∙ sym q.1) }
rounds_once (suc n) = record {
  once = λ xs ys more other l end last p q e.
      (then_once (Makes (ticked (nodes all_kinds l.world))) (round_after n l) (makes_once (ticked (nodes all_kinds l.world)))
      (record {
        once = λ as_is also left right m ends lasts u v same.
            choice_once (length m.world.packets == length l.world.packets) IsDrained (Then IsDrained (IsRounds n)) drained_once (then_once IsDrained (IsRounds n) drained_once (rounds_once n)) as_is also left right m ends lasts u v same;
      })).once xs ys more other l end last p q e;
}

settled_once : IsDetermined IsSettled
settled_once = record { once = λ xs ys more other l end last p q e. (then_once IsDrained (IsRounds 8) drained_once (rounds_once 8)).once xs ys more other l end last p q e }

fed_once : (x : Line) → IsDetermined (IsFed x)
fed_once line.Drain = record { once = drained }
fed_once line.Settle = record { once = λ xs ys more other l end last p q e. settled_once.once xs ys more other l end last p q e }
fed_once (line.Event event) = record { once = λ xs ys more other l end last p q e. (p.0 ∙ sym q.0, p.1 ∙ sym q.1) }
fed_once (line.Update k oid op) = record { once = λ xs ys more other l end last p q e. (p.0 ∙ sym q.0, p.1 ∙ sym q.1) }

-- Scripts.

stopped_after : (o : Option Which) (mid : LiveRan) (xs ys : List Answer) (end last : LiveRan) (P Q : Type 0) → (P → Q → end ≡ last) → Follows o mid xs end P → Follows o mid ys last Q → end ≡ last
stopped_after None mid xs ys end last P Q f p q = f p q
stopped_after (Some x) mid xs ys end last P Q f p q = p.1 ∙ sym q.1

-- a limit that stops the first lines stops all
stops_there : (first more : List Line) (xs ys left right : List Answer) (l : Live) (end last : LiveRan) (which : Which) → IsLived first xs l end → end.stopped ≡ Some which → IsLived (first ++ more) ys l last → xs ++ left ≡ ys ++ right → end ≡ last
stops_there [] more xs ys left right l end last which p over q e = let none : None ≡ Some which = sym (ap (λ (r : LiveRan). r.stopped) p.1) ∙ over in absurd cc
stops_there (x ∷ first) more xs ys left right l end last which p over q e =
    let flat = dealt_both p.taken p.rest left xs p.dealt ∙ e ∙ sym (dealt_both q.taken q.rest right ys q.dealt) in
    let before = (fed_once x).once p.taken q.taken (p.rest ++ left) (q.rest ++ right) l p.middle q.middle p.before q.before flat in
    let rest : p.rest ++ left ≡ q.rest ++ right = same_after p.taken q.taken (p.rest ++ left) (q.rest ++ right) before.0 flat in
    let after = subst (λ (m : LiveRan). Follows m.stopped m q.rest last (IsLived (first ++ more) q.rest m.live last)) (sym before.1) q.after in
    stopped_after p.middle.stopped p.middle p.rest q.rest end last (IsLived first p.rest p.middle.live end) (IsLived (first ++ more) q.rest p.middle.live last)
    (λ u v. stops_there first more p.rest q.rest left right p.middle.live end last which u over v rest) p.after after

past_header : (n k : ℕ) → 3 + k < n → nat_le n 3 ≡ false
past_header n k lt = grind (arith, nat_tests)

-- scripts with which a text begins
begins_once : (text : List ℕ) (s t : Script) → IsLiveScript s → IsLiveScript t → Begins text (3 + length t.events) s → Begins text (3 + length t.events) t → front (length t.events) s ≡ t
begins_once text s t h g a b =
    let k = length t.events in
    same_front k s t h.header g.header (λ j l i. (h.each j l i).line) (λ j l i. (g.each j l i).line) (subst (λ n. take n (text_lines s) ≡ take n (text_lines t)) (three_more k) (sym a ∙ b)) ∙ front_whole t

-- a run of a script that goes on is stopped where that of its beginning was, by the same answers
stopped_too : (s t : Script) (xs ys : List Answer) (end last : LiveRan) (which : Which) → front (length t.events) s ≡ t → IsLived t.events xs (opened t.header) end → end.stopped ≡ Some which
    → IsLived s.events ys (opened s.header) last → xs ≡ ys → end ≡ last
stopped_too s t xs ys end last which same p over q e =
    let k = length t.events in
    let header : s.header ≡ t.header = ap (λ (x : Script). x.header) same in
    let whole : s.events ≡ t.events ++ drop k s.events = sym (cut_at k s.events) ∙ ap (λ (x : Script). x.events ++ drop k s.events) same in
    let lived = subst (λ (h : Header). IsLived (t.events ++ drop k s.events) ys (opened h) last) header (subst (λ (ls : List Line). IsLived ls ys (opened s.header) last) whole q) in
    stops_there t.events (drop k s.events) xs ys [] [] (opened t.header) end last which p over lived (ap (λ (zs : List Answer). zs ++ []) e)

-- the answers that a list has grown by are one list
one_growth : (xs got also : List Answer) (o : Option (List Answer)) → o ≡ Some (xs ++ got) → o ≡ Some (xs ++ also) → got ≡ also
one_growth xs got also o e f = same_rest xs got also (some_same (xs ++ got) (xs ++ also) (sym e ∙ f))

module _ (o : Over) (xs : List Answer) (is : o.handed ≡ Some xs) where
  same_answers : (got also : List Answer) → Grows o.handed got o.handed_after → Grows o.handed also o.handed_after → got ≡ also
  same_answers got also a b =
      one_growth xs got also o.handed_after (subst (λ (h : Option (List Answer)). Grows h got o.handed_after) is a) (subst (λ (h : Option (List Answer)). Grows h also o.handed_after) is b)

  -- a text that passes a limit isn't run further by a script with at least as many lines
  not_further : (text : List ℕ) (which : Which) (p : PassesLimit o text which) (s : Script) (end : Live) (answers : List Answer) → IsLiveScript s → length p.script.events ≤ length s.events → Begins text (3 + length s.events) s
      → IsLived s.events answers (opened s.header) (goes end) → Grows o.handed answers o.handed_after → ⊥
  not_further text which p s end answers lawful le begins lived took =
      let few : 3 + length p.script.events ≤ 3 + length s.events = omega (arith, le) in
      let same = begins_once text s p.script lawful p.lawful (begins_less text (3 + length p.script.events) (3 + length s.events) s few begins) p.begins in
      let ended : p.end ≡ goes end = stopped_too s p.script p.answers answers p.end (goes end) which same p.lived p.over lived (same_answers p.answers answers p.took took) in
      let none : None ≡ Some which = sym (ap (λ (r : LiveRan). r.stopped) ended) ∙ p.over in
      absurd cc

  -- a text begins with no script that is longer than it
  longer_than_all : (text : List ℕ) (which : Which) (p : PassesLimit o text which) (s : Script) → Tells text s → length s.events < length p.script.events → ⊥
  longer_than_all text which p s tells lt =
      let long : length (lines text) ≡ length (text_lines s) = ap length tells in
      let many : length (map line_text s.events) ≡ length s.events = length-map s.events line_text in
      let more : length (map line_text p.script.events) ≡ length p.script.events = length-map p.script.events line_text in
      too_short (3 + length p.script.events) (lines text) (text_lines p.script) p.begins (omega (arith, long, many, lt)) (omega (arith, more))

  done_within : (text out : List ℕ) (which : Which) → PassesLimit o text which → Replayed o text out → ⊥
  done_within text out which p w = ⊎_elim
      (λ (le : length p.script.events ≤ length w.script.events). not_further text which p w.script w.end w.run.answers w.lawful le (tells_begins text (3 + length w.script.events) w.script w.tells) w.run.lived w.run.took)
      (λ (lt : length w.script.events < length p.script.events). longer_than_all text which p w.script w.tells lt)
      (le_or_lt (length p.script.events) (length w.script.events))

  outside_within : (text out : List ℕ) (n : ℕ) (which : Which) → PassesLimit o text which → Refused o text n out → ⊥
  outside_within text out n which p w = ⊎_elim
      (λ (le : n ≤ 3 + length p.script.events). w.first.outside p.script p.lawful (begins_less text n (3 + length p.script.events) p.script le p.begins))
      (λ (lt : 3 + length p.script.events < n).
      let past = past_header n (length p.script.events) lt in
      let printed = subst (λ (b : Bool). PrintedBefore b o w.before out) past w.printed in
      let many : length w.before.events ≡ n - 4 = w.first.events in
      let all : n - 1 ≡ 3 + length w.before.events = omega (arith, many, lt) in
      let le : length p.script.events ≤ length w.before.events = omega (arith, many, lt) in
      not_further text which p w.before printed.0 printed.1.answers w.first.lawful le (subst (λ (k : ℕ). Begins text k w.before) all w.first.begins) printed.1.lived printed.1.took)
      (le_or_lt n (3 + length p.script.events))

  -- one limit stops a run
  limit_once : (text out : List ℕ) (one by : Which) → PassesLimit o text by → Limited o text one out → one ≡ by
  limit_once text out one by p w = ⊎_elim
      (λ (le : length p.script.events ≤ length w.script.events).
      let few : 3 + length p.script.events ≤ 3 + length w.script.events = omega (arith, le) in
      let same = begins_once text w.script p.script w.lawful p.lawful (begins_less text (3 + length p.script.events) (3 + length w.script.events) w.script few w.begins) p.begins in
      let ended : p.end ≡ w.end = stopped_too w.script p.script p.answers w.run.answers p.end w.end by same p.lived p.over w.run.lived (same_answers p.answers w.run.answers p.took w.run.took) in
      some_same one by (sym w.over ∙ sym (ap (λ (r : LiveRan). r.stopped) ended) ∙ p.over))
      (λ (lt : length w.script.events < length p.script.events).
      let few : 3 + length w.script.events ≤ 3 + length p.script.events = omega (arith, lt) in
      let same = begins_once text p.script w.script p.lawful w.lawful (begins_less text (3 + length w.script.events) (3 + length p.script.events) p.script few p.begins) w.begins in
      let ended : w.end ≡ p.end = stopped_too p.script w.script w.run.answers p.answers w.end p.end one same w.run.lived w.over p.lived (same_answers w.run.answers p.answers w.run.took p.took) in
      some_same one by (sym w.over ∙ ap (λ (r : LiveRan). r.stopped) ended ∙ p.over))
      (le_or_lt (length p.script.events) (length w.script.events))

  limits : (text out : List ℕ) (status : Status) (by : Which) → Written o text status out → IsOfLive status → IsUndisturbed status → PassesLimit o text by → (status ≡ Limit by) ⊎ (status ≡ NoMemory)
  limits text out Done by w ways u p = absurd (done_within text out by p w)
  limits text out NoMemory by w ways u p = inr refl
  limits text out Words by w ways u p = absurd ways
  limits text out ReadFault by w ways u p = absurd (u.reads refl)
  limits text out WriteFault by w ways u p = absurd (u.writes refl)
  limits text out LinkFault by w ways u p = absurd (u.carries refl)
  limits text out (Illegal line clause) by w ways u p = absurd ways
  limits text out (AtLine n) by w ways u p = absurd (outside_within text out n by p w)
  limits text out (Limit which) by w ways u p = inl (ap Limit (limit_once text out which by p w))

limits_if : (o : Over) (handed : Option (List Answer)) → o.handed ≡ handed → (text out : List ℕ) (status : Status) → Written o text status out → IsOfLive status → IsUndisturbed status
    → IfSome handed (λ xs. (which : Which) → PassesLimit o text which → (status ≡ Limit which) ⊎ (status ≡ NoMemory))
limits_if o None is text out status w ways u = tt
limits_if o (Some xs) is text out status w ways u = λ which p. limits o xs is text out status which w ways u p

pub limits_told : (left before after : Option (List ℕ)) (o : Over) (status : Status) → Told left before after (λ text out. Written o text status out) → IsOfLive status → IsUndisturbed status →
    IfSome left (λ text. IfSome o.handed (λ xs. (which : Which) → PassesLimit o text which → (status ≡ Limit which) ⊎ (status ≡ NoMemory)))
limits_told None before after o status h ways u = tt
limits_told (Some text) before after o status h ways u = limits_if o o.handed refl text h.0 status h.2 ways u

-- Of two lines the earlier is the first outside.

not_before : (text : List ℕ) (m n : ℕ) (a b : Script) → FirstOutside text m a → FirstOutside text n b → m < n → ⊥
not_before text m n a b g h lt = let le : m ≤ n - 1 = omega (arith, lt) in g.outside b h.lawful (begins_less text m (n - 1) b le h.begins)

first_once : (text : List ℕ) (m n : ℕ) (a b : Script) → FirstOutside text m a → FirstOutside text n b → m ≡ n
first_once text m n a b g h = ⊎_elim
    (λ (le : m ≤ n). ⊎_elim (λ (ge : n ≤ m). let e : m ≡ n = omega (arith, le, ge) in e) (λ (lt : m < n). absurd (not_before text m n a b g h lt)) (le_or_lt n m))
    (λ (lt : n < m). absurd (not_before text n m b a h g lt))
    (le_or_lt m n)

refuses : (o : Over) (text out : List ℕ) (status : Status) (n : ℕ) (b : Script) → Written o text status out → IsOfLive status → IsUndisturbed status → FirstOutside text n b → PassesNone o text → (status ≡ AtLine n) ⊎ (status ≡ NoMemory)
refuses o text out Done n b w ways u first within = absurd (first.outside w.script w.lawful (tells_begins text n w.script w.tells))
refuses o text out NoMemory n b w ways u first within = inr refl
refuses o text out Words n b w ways u first within = absurd ways
refuses o text out ReadFault n b w ways u first within = absurd (u.reads refl)
refuses o text out WriteFault n b w ways u first within = absurd (u.writes refl)
refuses o text out LinkFault n b w ways u first within = absurd (u.carries refl)
refuses o text out (Illegal line clause) n b w ways u first within = absurd ways
refuses o text out (AtLine m) n b w ways u first within = inl (ap AtLine (first_once text m n w.before b w.first first))
refuses o text out (Limit which) n b w ways u first within = absurd (within which (passes o text out which w))

pub refuses_told : (left before after : Option (List ℕ)) (o : Over) (status : Status) → Told left before after (λ text out. Written o text status out) → IsOfLive status → IsUndisturbed status →
    IfSome left (λ text. (line : ℕ) (b : Script) → FirstOutside text line b → PassesNone o text → (status ≡ AtLine line) ⊎ (status ≡ NoMemory))
refuses_told None before after o status h ways u = tt
refuses_told (Some text) before after o status h ways u = λ line b first within. refuses o text h.0 status line b h.2 ways u first within

-- whatever the link tells, it is refused there or a limit stops it
refuses_or : (o : Over) (text out : List ℕ) (status : Status) (n : ℕ) (b : Script) → Written o text status out → IsOfLive status → IsUndisturbed status → FirstOutside text n b → IsOrStops status (AtLine n)
refuses_or o text out Done n b w ways u first = absurd (first.outside w.script w.lawful (tells_begins text n w.script w.tells))
refuses_or o text out NoMemory n b w ways u first = inr (inr refl)
refuses_or o text out Words n b w ways u first = absurd ways
refuses_or o text out ReadFault n b w ways u first = absurd (u.reads refl)
refuses_or o text out WriteFault n b w ways u first = absurd (u.writes refl)
refuses_or o text out LinkFault n b w ways u first = absurd (u.carries refl)
refuses_or o text out (Illegal line clause) n b w ways u first = absurd ways
refuses_or o text out (AtLine m) n b w ways u first = inl (ap AtLine (first_once text m n w.before b w.first first))
refuses_or o text out (Limit which) n b w ways u first = inr (inl (which, refl))

pub refuses_or_told : (left before after : Option (List ℕ)) (o : Over) (status : Status) → Told left before after (λ text out. Written o text status out) → IsOfLive status → IsUndisturbed status →
    IfSome left (λ text. (line : ℕ) (b : Script) → FirstOutside text line b → IsOrStops status (AtLine line))
refuses_or_told None before after o status h ways u = tt
refuses_or_told (Some text) before after o status h ways u = λ line b first. refuses_or o text h.0 status line b h.2 ways u first
