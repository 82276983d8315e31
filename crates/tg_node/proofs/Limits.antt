-- A limit that is passed stops a session: what a line asks and the answers that were handed tell how far it comes.
use Rattle.std.proofs.Common.{◌≡◌, ◌⊎◌, ℕ, suc, ◌+◌, ◌<◌, ◌≤◌, List, [], ◌∷◌, ◌++◌, length, Option, Some, None, IfSome, sym, refl, subst, ap, ◌∙◌, arith, inl, inr, ⊎_elim}
use Rattle.std.proofs.lemmas.List.{append_assoc, append-nil}
use Rattle.tg_base.specs.Clusters.{Header, IsHeader}
use Rattle.tg_base.specs.declared.fault.Which.{Which}
use Rattle.tg_base.specs.declared.fault.Which.TheVariants as which
use Rattle.tg_base.specs.declared.ids.NodeId.{NodeId}
use Rattle.tg_any.proofs.Fronts.{some_is}
use Rattle.tg_io.specs.Bytes.{Grows}
use Rattle.tg_io.specs.declared.link.Arrival.{Arrival}
use Rattle.tg_io.specs.declared.status.Status.{Status}
use Rattle.tg_io.specs.declared.status.Status.TheVariants as status
use Rattle.tg_script.proofs.EventLines.{line_only}
use Rattle.tg_node.specs.Lines.{IsAsked, own_read, asked_of}
use Rattle.tg_node.specs.declared.asked.Asked.{Asked}
use Rattle.tg_node.specs.declared.asked.Asked.TheVariants.{Tick, Wait, Given, Update}
use Rattle.tg_node.proofs.Reading.{own_only, line_again}
use Rattle.tg_node.specs.Sessions.{Deed, IsWhole, inputs_by, inputs_of, answers_of, steps_of, datagrams_of, datagrams_in, packets_in}
use Rattle.tg_node.specs.Texts.{Seen, AreDone, Point, answers_at, IsPart, IsPast, IsOver, Midst, answers_in, PassesLimit, Refused, Outcome, Told}
use Rattle.tg_node.proofs.Doing.{many_both}
use Rattle.tg_node.proofs.Openings.{le_or_lt}
use Rattle.tg_node.proofs.Following.{many_done, midst_begins, same_parts}
use Rattle.tg_node.proofs.Ending.{IsUndisturbed}

-- A line asks one thing.

asked_by : (h : Header) → IsHeader h → (n : NodeId) (text : List ℕ) (a b : Asked) (o : Option Asked) → own_read text ≡ o → IsAsked h n text a → IsAsked h n text b → a ≡ b
asked_by h lawful n text a b (Some x) e is also = sym (own_only h n text x a e is) ∙ own_only h n text x b e also
asked_by h lawful n text a b None e is also =
    let l = line_again h n text a e is in
    let m = line_again h n text b e also in
    let same = some_is l.line m.line (sym (line_only h lawful text l.line l.is) ∙ line_only h lawful text m.line m.is) in
    some_is a b (sym l.asks ∙ ap (asked_of n) same ∙ m.asks)

asked_once : (h : Header) → IsHeader h → (n : NodeId) (text : List ℕ) (a b : Asked) → IsAsked h n text a → IsAsked h n text b → a ≡ b
asked_once h lawful n text a b is also = asked_by h lawful n text a b (own_read text) refl is also

-- Lists.

cons_same : {A : Type 0} (x y : A) (xs ys : List A) → x ≡ y → xs ≡ ys → x ∷ xs ≡ y ∷ ys
cons_same x y xs ys e f = cc

head_same : {A : Type 0} (x y : A) (xs ys : List A) → x ∷ xs ≡ y ∷ ys → (x ≡ y) × (xs ≡ ys)
head_same x y xs ys e = (cc, cc)

-- lists of one length that begin the same list
fronts_same : {A : Type 0} (xs ys got bs : List A) → length xs ≡ length ys → xs ++ got ≡ ys ++ bs → (xs ≡ ys) × (got ≡ bs)
fronts_same [] [] got bs l e = (refl, e)
fronts_same [] (y ∷ ys) got bs l e = absurd (omega (arith, l))
fronts_same (x ∷ xs) [] got bs l e = absurd (omega (arith, l))
fronts_same (x ∷ xs) (y ∷ ys) got bs l e =
    let parts = head_same x y (xs ++ got) (ys ++ bs) e in
    let few : length xs ≡ length ys = omega (arith, l) in
    let rest = fronts_same xs ys got bs few parts.1 in
    (cons_same x y xs ys parts.0 rest.0, rest.1)

no_items : {A : Type 0} (xs : List A) → length xs ≡ 0 → xs ≡ []
no_items [] e = refl
no_items (x ∷ xs) e = absurd (omega (arith, e))

-- Two courses of one text.

many_answers : (a : Asked) (got bs : List (Option Arrival)) → IsWhole a got → IsWhole a bs → length got ≡ length bs
many_answers (Wait calls) got bs w v = w ∙ sym v
many_answers Tick got bs w v = ap length (w ∙ sym v)
many_answers (Given c) got bs w v = ap length (w ∙ sym v)
many_answers (Update oid op) got bs w v = ap length (w ∙ sym v)

deed_same : (d e : Deed) → d.asked ≡ e.asked → d.answers ≡ e.answers → d ≡ e
deed_same d e a b = λ i. record { asked = a i; answers = b i }

-- a course goes on where a shorter one ends
record GoesOn (h : Header) (n : NodeId) (ds es : List Deed) (rest more : List (List ℕ)) (x y : List (Option Arrival)) : Type 0 where
  texts : List (List ℕ)
  deeds : List Deed
  done : AreDone h n texts deeds
  all : ds ≡ es ++ deeds
  cut : texts ++ rest ≡ more
  answers : answers_of deeds ++ x ≡ y

goes_on : (h : Header) → IsHeader h → (n : NodeId) (ts : List (List ℕ)) (ds : List Deed) (us : List (List ℕ)) (es : List Deed) (rest more : List (List ℕ)) (x y : List (Option Arrival)) → AreDone h n ts ds → AreDone h n us es
    → ts ++ rest ≡ us ++ more → length us ≤ length ts → answers_of ds ++ x ≡ answers_of es ++ y → GoesOn h n ds es rest more x y
goes_on h lawful n ts ds [] [] rest more x y done also cut le answers = record { texts = ts; deeds = ds; done = done; all = refl; cut = cut; answers = answers }
goes_on h lawful n ts ds [] (e ∷ es) rest more x y done also cut le answers = absurd also
goes_on h lawful n ts ds (u ∷ us) [] rest more x y done also cut le answers = absurd also
goes_on h lawful n [] ds (u ∷ us) (e ∷ es) rest more x y done also cut le answers = absurd (omega (arith, le))
goes_on h lawful n (t ∷ ts) [] (u ∷ us) (e ∷ es) rest more x y done also cut le answers = absurd done
goes_on h lawful n (t ∷ ts) (d ∷ ds) (u ∷ us) (e ∷ es) rest more x y done also cut le answers =
    let parts = head_same t u (ts ++ rest) (us ++ more) cut in
    let asked : d.asked ≡ e.asked = asked_once h lawful n u d.asked e.asked (subst (λ (l : List ℕ). IsAsked h n l d.asked) parts.0 done.0) also.0 in
    let many : length d.answers ≡ length e.answers = many_answers e.asked d.answers e.answers (subst (λ (a : Asked). IsWhole a d.answers) asked done.1) also.1 in
    let flat : d.answers ++ (answers_of ds ++ x) ≡ e.answers ++ (answers_of es ++ y) = sym (append_assoc d.answers (answers_of ds) x) ∙ answers ∙ append_assoc e.answers (answers_of es) y in
    let split = fronts_same d.answers e.answers (answers_of ds ++ x) (answers_of es ++ y) many flat in
    let few : length us ≤ length ts = omega (arith, le) in
    let g = goes_on h lawful n ts ds us es rest more x y done.2 also.2 parts.1 few split.1 in
    record { texts = g.texts; deeds = g.deeds; done = g.done; all = cons_same d e ds (es ++ g.deeds) (deed_same d e asked split.0) g.all; cut = g.cut; answers = g.answers }

-- A line that is done passes no limit.

steps_both : (n : NodeId) (ds es : List Deed) → steps_of n (ds ++ es) ≡ steps_of n ds + steps_of n es
steps_both n [] es = omega arith
steps_both n (d ∷ ds) es = let e : steps_of n (ds ++ es) ≡ steps_of n ds + steps_of n es = steps_both n ds es in omega (arith, e)

many_front : {A : Type 0} (got more bs : List A) → got ++ more ≡ bs → length bs ≡ length got + length more
many_front got more bs e = sym (ap length e) ∙ many_both got more

-- a wait that had all its answers has had no more
all_taken : {A : Type 0} (got more bs : List A) → got ++ more ≡ bs → length bs ≤ length got → got ≡ bs
all_taken {A} got more bs e le =
    let many : length bs ≡ length got + length more = many_front got more bs e in
    let none : more ≡ [] = no_items more (omega (arith, many, le)) in
    sym (append-nil got) ∙ ap (λ (l : List A). got ++ l) (sym none) ∙ e

done_within : (n : NodeId) (w : Which) (a : Asked) (got more bs : List (Option Arrival)) (steps datagrams : ℕ) → IsWhole a got → IsPart a bs → got ++ more ≡ bs
    → IsOver w (record { asked = a; answers = bs }) (steps + length (inputs_by n a bs)) datagrams → steps + length (inputs_by n a got) ≤ 200000 → ⊥
done_within n which.Steps (Wait calls) got more bs steps datagrams whole part e over le =
    let few : length bs ≤ calls = part in
    let many : length got ≡ calls = whole in
    let same = all_taken got more bs e (omega (arith, few, many)) in
    let past : steps + length (packets_in n got) ≡ 200001 = subst (λ (l : List (Option Arrival)). steps + length (packets_in n l) ≡ 200001) (sym same) over in
    omega (arith, past, le)
done_within n which.Steps Tick got more bs steps datagrams whole part e over le = let past : 200000 < steps + 1 = over in let few : steps + 1 ≤ 200000 = le in omega (arith, past, few)
done_within n which.Steps (Given c) got more bs steps datagrams whole part e over le = let past : 200000 < steps + 1 = over in let few : steps + 1 ≤ 200000 = le in omega (arith, past, few)
done_within n which.Steps (Update oid op) got more bs steps datagrams whole part e over le = let past : 200000 < steps + 3 = over in let few : steps + 3 ≤ 200000 = le in omega (arith, past, few)
done_within n which.Datagrams (Wait calls) got more bs steps datagrams whole part e over le =
    let another : length bs < calls = over.2 in
    let all : length got ≡ calls = whole in
    let many : length bs ≡ length got + length more = many_front got more bs e in
    omega (arith, another, all, many)
done_within n which.Datagrams Tick got more bs steps datagrams whole part e over le = absurd over.2
done_within n which.Datagrams (Given c) got more bs steps datagrams whole part e over le = absurd over.2
done_within n which.Datagrams (Update oid op) got more bs steps datagrams whole part e over le = absurd over.2
done_within n which.Bytes a got more bs steps datagrams whole part e over le = absurd over

-- a course that goes on at a line is within the limits there
goes_within : (h : Header) → IsHeader h → (n : NodeId) (w : Which) (ds es : List Deed) (rest : List (List ℕ)) (line : List ℕ) (more : List (List ℕ)) (l : Deed) (x : List (Option Arrival)) (datagrams : ℕ) (texts : List (List ℕ)) (deeds : List Deed)
    → AreDone h n texts deeds → ds ≡ es ++ deeds → texts ++ rest ≡ line ∷ more → answers_of deeds ++ x ≡ l.answers → length es < length ds → IsAsked h n line l.asked → IsPart l.asked l.answers
    → IsOver w l (steps_of n es + length (inputs_of n l)) datagrams → steps_of n ds ≤ 200000 → ⊥
goes_within h lawful n w ds es rest line more l x datagrams [] [] done all cut answers lt asked part over few =
    let same : length ds ≡ length es = ap length (all ∙ append-nil es) in omega (arith, same, lt)
goes_within h lawful n w ds es rest line more l x datagrams [] (d ∷ deeds) done all cut answers lt asked part over few = absurd done
goes_within h lawful n w ds es rest line more l x datagrams (t ∷ texts) [] done all cut answers lt asked part over few = absurd done
goes_within h lawful n w ds es rest line more l x datagrams (t ∷ texts) (d ∷ deeds) done all cut answers lt asked part over few =
    let parts = head_same t line (texts ++ rest) more cut in
    let same : d.asked ≡ l.asked = asked_once h lawful n line d.asked l.asked (subst (λ (y : List ℕ). IsAsked h n y d.asked) parts.0 done.0) asked in
    let steps : steps_of n ds ≡ steps_of n es + (length (inputs_by n d.asked d.answers) + steps_of n deeds) = ap (steps_of n) all ∙ steps_both n es (d ∷ deeds) in
    let made : steps_of n es + length (inputs_by n d.asked d.answers) ≤ 200000 = omega (arith, steps, few) in
    done_within n w l.asked d.answers (answers_of deeds ++ x) l.answers (steps_of n es) datagrams (subst (λ (a : Asked). IsWhole a d.answers) same done.1) part (sym (append_assoc d.answers (answers_of deeds) x) ∙ answers) over
    (subst (λ (a : Asked). steps_of n es + length (inputs_by n a d.answers) ≤ 200000) same made)

-- no limit is passed in the midst of a line that a point has, with the same answers
pub not_midst : (text : List ℕ) (n : NodeId) (w : Which) (p : Point text n) (m : Midst text n w) (x : List (Option Arrival)) → answers_at p ++ x ≡ answers_in m → length m.point.deeds < length p.deeds → ⊥
not_midst text n w p m x answers lt =
    let q = m.point in
    let same = same_parts text q.header p.header (q.read ++ q.rest) (p.read ++ p.rest) q.lawful p.lawful q.cut p.cut in
    let cut : p.read ++ p.rest ≡ q.read ++ m.line ∷ m.more = sym same.1 ∙ ap (λ (ls : List (List ℕ)). q.read ++ ls) m.next in
    let mine : AreDone q.header n p.read p.deeds = subst (λ (h : Header). AreDone h n p.read p.deeds) (sym same.0) p.done in
    let many : length p.read ≡ length p.deeds = many_done p.header n p.read p.deeds p.done in
    let few : length q.read ≡ length q.deeds = many_done q.header n q.read q.deeds q.done in
    let le : length q.read ≤ length p.read = omega (arith, many, few, lt) in
    let g = goes_on q.header q.lawful n p.read p.deeds q.read q.deeds p.rest (m.line ∷ m.more) x m.last.answers mine q.done cut le answers in
    goes_within q.header q.lawful n w p.deeds q.deeds p.rest m.line m.more m.last x (datagrams_of q.deeds + datagrams_in m.last.answers) g.texts g.deeds g.done g.all g.cut g.answers lt m.asked m.part m.over p.few

-- One limit is passed.

past_steps : (a : Asked) (steps : ℕ) → IsPast a steps → 200000 < steps
past_steps (Wait calls) steps e = omega (arith, e)
past_steps Tick steps e = e
past_steps (Given c) steps e = e
past_steps (Update oid op) steps e = e

over_once : (w v : Which) (d : Deed) (steps datagrams : ℕ) → IsOver w d steps datagrams → IsOver v d steps datagrams → w ≡ v
over_once which.Steps which.Steps d steps datagrams a b = refl
over_once which.Datagrams which.Datagrams d steps datagrams a b = refl
over_once which.Steps which.Datagrams d steps datagrams a b = let past = past_steps d.asked steps a in let within : steps ≤ 200000 = b.1 in absurd (omega (arith, past, within))
over_once which.Datagrams which.Steps d steps datagrams a b = let past = past_steps d.asked steps b in let within : steps ≤ 200000 = a.1 in absurd (omega (arith, past, within))
over_once which.Bytes v d steps datagrams a b = absurd a
over_once which.Steps which.Bytes d steps datagrams a b = absurd b
over_once which.Datagrams which.Bytes d steps datagrams a b = absurd b

same_midst : (text : List ℕ) (n : NodeId) (w v : Which) (m : Midst text n w) (o : Midst text n v) → answers_in m ≡ answers_in o → length o.point.deeds ≡ length m.point.deeds → w ≡ v
same_midst text n w v m o answers e =
    let p = m.point in
    let q = o.point in
    let same = same_parts text q.header p.header (q.read ++ q.rest) (p.read ++ p.rest) q.lawful p.lawful q.cut p.cut in
    let cut : p.read ++ m.line ∷ m.more ≡ q.read ++ o.line ∷ o.more =
    sym (ap (λ (ls : List (List ℕ)). p.read ++ ls) m.next) ∙ sym same.1 ∙ ap (λ (ls : List (List ℕ)). q.read ++ ls) o.next in
    let mine : AreDone q.header n p.read p.deeds = subst (λ (h : Header). AreDone h n p.read p.deeds) (sym same.0) p.done in
    let many : length p.read ≡ length p.deeds = many_done p.header n p.read p.deeds p.done in
    let few : length q.read ≡ length q.deeds = many_done q.header n q.read q.deeds q.done in
    let le : length q.read ≤ length p.read = omega (arith, many, few, e) in
    let g = goes_on q.header q.lawful n p.read p.deeds q.read q.deeds (m.line ∷ m.more) (o.line ∷ o.more) m.last.answers o.last.answers mine q.done cut le answers in
    let both : length p.deeds ≡ length q.deeds + length g.deeds = ap length g.all ∙ many_both q.deeds g.deeds in
    let none : g.deeds ≡ [] = no_items g.deeds (omega (arith, both, e)) in
    let lines_too : length g.texts ≡ length g.deeds = many_done q.header n g.texts g.deeds g.done in
    let no_lines : g.texts ≡ [] = no_items g.texts (lines_too ∙ ap length none) in
    let deeds : p.deeds ≡ q.deeds = g.all ∙ ap (λ (ds : List Deed). q.deeds ++ ds) none ∙ append-nil q.deeds in
    let line = head_same m.line o.line m.more o.more (sym (ap (λ (ls : List (List ℕ)). ls ++ m.line ∷ m.more) no_lines) ∙ g.cut) in
    let replies : m.last.answers ≡ o.last.answers = sym (ap (λ (ds : List Deed). answers_of ds ++ m.last.answers) none) ∙ g.answers in
    let asked : m.last.asked ≡ o.last.asked =
    asked_once q.header q.lawful n o.line m.last.asked o.last.asked (subst (λ (l : List ℕ). IsAsked q.header n l m.last.asked) line.0 (subst (λ (h : Header). IsAsked h n m.line m.last.asked) (sym same.0) m.asked)) o.asked in
    let last : m.last ≡ o.last = deed_same m.last o.last asked replies in
    let over = subst (λ (d : Deed). IsOver w d (steps_of n q.deeds + length (inputs_of n d)) (datagrams_of q.deeds + datagrams_in d.answers)) last
    (subst (λ (ds : List Deed). IsOver w m.last (steps_of n ds + length (inputs_of n m.last)) (datagrams_of ds + datagrams_in m.last.answers)) deeds m.over) in
    over_once w v o.last (steps_of n q.deeds + length (inputs_of n o.last)) (datagrams_of q.deeds + datagrams_in o.last.answers) over o.over

one_limit : (text : List ℕ) (n : NodeId) (w v : Which) (m : Midst text n w) (o : Midst text n v) → answers_in m ≡ answers_in o → w ≡ v
one_limit text n w v m o answers = ⊎_elim
    (λ (le : length m.point.deeds ≤ length o.point.deeds). ⊎_elim
    (λ (ge : length o.point.deeds ≤ length m.point.deeds). same_midst text n w v m o answers (omega (arith, le, ge)))
    (λ (lt : length m.point.deeds < length o.point.deeds). absurd (not_midst text n w o.point m o.last.answers (sym answers) lt))
    (le_or_lt (length o.point.deeds) (length m.point.deeds)))
    (λ (lt : length o.point.deeds < length m.point.deeds). absurd (not_midst text n v m.point o m.last.answers answers lt))
    (le_or_lt (length m.point.deeds) (length o.point.deeds))

-- A limit that is passed.

-- the answers that a list has grown by are one list
one_growth : {A : Type 0} (xs got bs : List A) (o : Option (List A)) → o ≡ Some (xs ++ got) → o ≡ Some (xs ++ bs) → got ≡ bs
one_growth xs got bs o e f = (fronts_same xs xs got bs refl (some_is (xs ++ got) (xs ++ bs) (sym e ∙ f))).1

not_ended : (text : List ℕ) (n : NodeId) (w : Which) (p : Point text n) (m : Midst text n w) → p.rest ≡ [] → answers_at p ≡ answers_in m → ⊥
not_ended text n w p m end answers =
    let q = m.point in
    let same = same_parts text p.header q.header (p.read ++ p.rest) (q.read ++ q.rest) p.lawful q.lawful p.cut q.cut in
    let cut : p.read ≡ q.read ++ m.line ∷ m.more = sym (append-nil p.read) ∙ sym (ap (λ (ls : List (List ℕ)). p.read ++ ls) end) ∙ same.1 ∙ ap (λ (ls : List (List ℕ)). q.read ++ ls) m.next in
    let many : length p.read ≡ length p.deeds = many_done p.header n p.read p.deeds p.done in
    let few : length q.read ≡ length q.deeds = many_done q.header n q.read q.deeds q.done in
    let more : length p.read ≡ length q.read + suc (length m.more) = ap length cut ∙ many_both q.read (m.line ∷ m.more) in
    not_midst text n w p m [] (append-nil (answers_at p) ∙ answers) (omega (arith, many, few, more))

not_refused : (text : List ℕ) (n : NodeId) (w : Which) (m : Midst text n w) (k : ℕ) (before now : Seen) (xs : List (Option Arrival)) → before.handed ≡ Some xs → now.handed ≡ Some (xs ++ answers_in m) → Refused text n k before now → ⊥
not_refused text n w m k before now xs was is (inr r) = let few : k ≤ 3 = r.few in r.first.outside (midst_begins text n w m k (omega (arith, few)))
not_refused text n w m k before now xs was is (inl r) =
    let at : k ≡ 4 + length r.point.deeds = r.place in
    ⊎_elim
    (λ (le : length r.point.deeds ≤ length m.point.deeds). r.first.outside (midst_begins text n w m k (omega (arith, at, le))))
    (λ (lt : length m.point.deeds < length r.point.deeds).
    let handed = subst (λ (o : Option (List (Option Arrival))). Grows o (answers_at r.point) now.handed) was r.seen.handed in
    not_midst text n w r.point m [] (append-nil (answers_at r.point) ∙ one_growth xs (answers_at r.point) (answers_in m) now.handed handed is) lt)
    (le_or_lt (length r.point.deeds) (length m.point.deeds))

limits : (text : List ℕ) (n : NodeId) (s : Status) (w : Which) (m : Midst text n w) (before now : Seen) (xs : List (Option Arrival)) → before.handed ≡ Some xs → now.handed ≡ Some (xs ++ answers_in m) → Outcome text n s before now → IsUndisturbed s
    → (s ≡ status.Limit w) ⊎ (s ≡ status.NoMemory)
limits text n status.Done w m before now xs was is h u =
    let handed = subst (λ (o : Option (List (Option Arrival))). Grows o (answers_at h.point) now.handed) was h.seen.handed in
    absurd (not_ended text n w h.point m h.end (one_growth xs (answers_at h.point) (answers_in m) now.handed handed is))
limits text n status.NoMemory w m before now xs was is h u = inr refl
limits text n (status.Illegal line c) w m before now xs was is h u = absurd h
limits text n status.Words w m before now xs was is h u = absurd h
limits text n (status.Script k) w m before now xs was is h u = absurd (not_refused text n w m k before now xs was is h)
limits text n status.ReadFault w m before now xs was is h u = absurd (u.reads refl)
limits text n status.WriteFault w m before now xs was is h u = absurd (u.writes refl)
limits text n status.LinkFault w m before now xs was is h u = absurd (u.sends refl)
limits text n (status.Limit v) w m before now xs was is h u =
    let handed = subst (λ (o : Option (List (Option Arrival))). Grows o (answers_in h.midst) now.handed) was h.seen.handed in
    inl (ap status.Limit (one_limit text n v w h.midst m (one_growth xs (answers_in h.midst) (answers_in m) now.handed handed is)))

limits_if : (text : List ℕ) (n : NodeId) (s : Status) (before now : Seen) (o : Option (List (Option Arrival))) → before.handed ≡ o → Outcome text n s before now → IsUndisturbed s
    → IfSome o (λ handed. (w : Which) → PassesLimit text n w before.handed now.handed → (s ≡ status.Limit w) ⊎ (s ≡ status.NoMemory))
limits_if text n s before now None was h u = tt
limits_if text n s before now (Some xs) was h u = λ w p.
    limits text n s w p.0 before now xs was (subst (λ (o : Option (List (Option Arrival))). Grows o (answers_in p.0) now.handed) was p.1) h u

pub limits_told : (left : Option (List ℕ)) (n : NodeId) (s : Status) (before now : Seen) → Told left (λ text. Outcome text n s before now) → IsUndisturbed s
    → Told left (λ text. IfSome before.handed (λ handed. (w : Which) → PassesLimit text n w before.handed now.handed → (s ≡ status.Limit w) ⊎ (s ≡ status.NoMemory)))
limits_told None n s before now h u = tt
limits_told (Some text) n s before now h u = limits_if text n s before now before.handed refl h u
