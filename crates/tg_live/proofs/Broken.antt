-- Of a text: what was done with the link where its live run was broken off.
use Rattle.std.proofs.Common.{◌≡◌, ◌∙◌, ℕ, suc, ◌+◌, ◌-◌, ◌<◌, Bool, true, false, List, [], ◌∷◌, ◌++◌, length, take, Option, Some, None, inl, inr, refl, sym, ap, subst, arith, IfSome}
use Rattle.std.specs.Prelude.{nat_le}
use Rattle.std.proofs.lemmas.Bool.Decides.{nat_tests}
use Rattle.std.proofs.lemmas.List.{append-nil}
use Rattle.tg_base.specs.Clusters.{Header, IsHeader}
use Rattle.tg_io.specs.Acts.{Act}
use Rattle.tg_io.specs.Bytes.{Grows}
use Rattle.tg_io.specs.declared.status.Status.{Status}
use Rattle.tg_io.specs.declared.status.Status.TheVariants.{Done, Script as AtLine, Limit, Illegal, Words, ReadFault, WriteFault, LinkFault, NoMemory}
use Rattle.tg_script.specs.Headers.{header_lines}
use Rattle.tg_script.specs.declared.line.Line.{Line}
use Rattle.tg_lines.specs.Feeds.{TakesFeeds}
use Rattle.tg_lines.specs.Lines.{lines, ahead, TakesLine}
use Rattle.tg_lines.specs.Openings.{Opened}
use Rattle.tg_lines.specs.declared.header.Opening.TheVariants.{Opens}
use Rattle.tg_replay.specs.Runs.{Script, Begins, line_text, text_lines}
use Rattle.tg_replay.specs.Stages.{status_of}
use Rattle.tg_replay.proofs.Lists.{length_last, front_more, take_whole, take_self}
use Rattle.tg_live.specs.declared.live.Live.{Live as Kept}
use Rattle.tg_live.specs.declared.stages.Running.{Running}
use Rattle.tg_live.specs.declared.stages.Finish.{Finish}
use Rattle.tg_live.specs.Breaks.{Broken, BrokenOff, BreaksOff, IsDone}
use Rattle.tg_live.specs.Lives.{LiveRan, IsFed, opened, goes}
use Rattle.tg_live.specs.Kept.{Keeps}
use Rattle.tg_live.specs.Scripts.{Over, RunsOver, IsLiveLine, IsLiveScript, FirstOutside, PrintedBefore, Outcome}
use Rattle.tg_live.specs.Sends.{Carried}
use Rattle.tg_live.specs.Stages.{IsRunOf, Reads, Ends, Finished, Handed, over, StillReads}
use Rattle.tg_live.proofs.Breaking.{front_all}
use Rattle.tg_live.proofs.Scripts.{longer, opening, script_longer, text_longer, lived_longer, many_lines, run_opens}

-- between two lines
pub run_broken : (o : Over) (text : List ℕ) (read more : List (List ℕ)) (r : Running) (s : Script) → IsRunOf o read r s → lines text ≡ read ++ more → BrokenOff text o.carried.acts o.carried_after.acts
run_broken o text read more r s h cut =
    let long : length read ≡ suc (suc (suc (length s.events))) = many_lines o read r s h in
    let at : 3 + length s.events ≡ length read = omega (arith, long) in
    record {
      script = s;
      lawful = h.lawful;
      begins = ap (λ k. take k (lines text)) at ∙ ap (λ (ls : List (List ℕ)). take (length read) ls) cut ∙ take_whole read more ∙ h.lines
          ∙ sym (ap (λ k. take k (text_lines s)) (at ∙ ap length h.lines) ∙ take_self (text_lines s));
      answers = h.answers;
      end = goes h.live;
      lived = h.lived;
      acts = front_all o.carried.acts o.carried_after.acts h.live.acts h.kept.acts;
    }

-- in the midst of one
pub line_broken : (o : Over) (text line : List ℕ) (read more : List (List ℕ)) (r : Running) (s : Script) (l : Line) (after : Option (List Act)) (h : IsRunOf o read r s) → lines text ≡ read ++ line ∷ more
    → IsLiveLine s.header l → line ≡ line_text l → Broken (IsFed l) o.carried.acts after h.live → BrokenOff text o.carried.acts after
line_broken o text line read more r s l after h cut is spelled b =
    let long = many_lines o read r s h in
    let count : 3 + length (s.events ++ l ∷ []) ≡ suc (length read) = let e = length_last s.events l in omega arith in
    let same : read ++ line ∷ [] ≡ text_lines (longer s l) = ap (λ (x : List (List ℕ)). x ++ line ∷ []) h.lines ∙ ap (λ (x : List ℕ). text_lines s ++ x ∷ []) spelled ∙ sym (text_longer s l) in
    let whole : take (3 + length (s.events ++ l ∷ [])) (text_lines (longer s l)) ≡ text_lines (longer s l) =
    ap (λ n. take n (text_lines (longer s l))) (count ∙ sym (length_last read line) ∙ ap length same) ∙ take_self (text_lines (longer s l)) in
    record {
      script = longer s l;
      lawful = script_longer s l h.lawful is;
      begins = ap (λ n. take n (lines text)) count ∙ ap (λ (ls : List (List ℕ)). take (suc (length read)) ls) cut ∙ front_more read more line ∙ same ∙ sym whole;
      answers = h.answers ++ b.answers;
      end = b.end;
      lived = lived_longer s.events l h.answers b.answers (opened s.header) h.live b.end h.lived b.is;
      acts = b.acts;
    }

-- Line by line.

pub still_broken : (before rest : Option (List ℕ)) (r q : Running) (a b : Handed) (x y : Carried) → StillReads before rest r q a b x y
    → IfSome before (λ rest. (handed : Handed) (first : Carried) (text : List ℕ) → Reads (over handed a first x) text r rest → BrokenOff text first.acts y.acts)
still_broken None rest r q a b x y h = tt
still_broken (Some before) None r q a b x y h = absurd h
still_broken (Some before) (Some rest) r q a b x y h = λ handed first text reads.
    let is = h handed first text reads in
    run_broken (over handed b first y) text is.read (lines rest) q is.script is.run is.cut

pub still_breaks : (before rest after : Option (List ℕ)) (r q : Running) (line : List ℕ) (a b : Handed) (x y : Carried) (acts : Option (List Act)) → StillReads before rest r q a b x y → TakesLine rest after (Some line) → BreaksOff q line b y acts
    → IfSome before (λ rest. (handed : Handed) (first : Carried) (text : List ℕ) → Reads (over handed a first x) text r rest → BrokenOff text first.acts acts)
still_breaks None rest after r q line a b x y acts h t k = tt
still_breaks (Some before) None after r q line a b x y acts h t k = absurd h
still_breaks (Some before) (Some rest) None r q line a b x y acts h t k = absurd t
still_breaks (Some before) (Some rest) (Some after) r q line a b x y acts h t k = λ handed first text reads.
    let is = h handed first text reads in
    k handed first text is.read (lines after) is.script (is.cut ∙ ap (λ (ls : List (List ℕ)). is.read ++ ls) t) is.run

-- before the first line
pub none_done : (left : Option (List ℕ)) (acts : Option (List Act)) → IfSome left (λ text. IsDone text acts acts)
none_done None acts = tt
none_done (Some text) acts = inl refl

-- after a header
pub opens_broken : (none : List ℕ) (left rest : Option (List ℕ)) (h : Header) (r : Running) (a : Handed) (x : Carried) (after : Option (List Act)) → none ≡ [] → Opened (ahead none left) rest (Opens h) → TakesFeeds 3 (ahead none left) rest
    → IsHeader h → Keeps h x x r.live (opened h) → r.lines ≡ 0 → IfSome rest (λ rest. (handed : Handed) (first : Carried) (text : List ℕ) → Reads (over handed a first x) text r rest → BrokenOff text first.acts after) → IfSome left (λ text. IsDone text x.acts after)
opens_broken none None rest h r a x after e is took lawful kept count first = tt
opens_broken none (Some text) None h r a x after e is took lawful kept count first = absurd is
opens_broken none (Some text) (Some rest) h r a x after e is took lawful kept count first =
    let cut = subst (λ (bs : List ℕ). Opened (Some (bs ++ text)) (Some rest) (Opens h)) e is in
    let feeds = subst (λ (bs : List ℕ). TakesFeeds 3 (Some (bs ++ text)) (Some rest)) e took in
    inr (first a x text (record { read = header_lines h; script = opening h; run = run_opens (over a a x x) h r lawful refl kept count; cut = cut; feeds = feeds }))

-- A run that has come to its end.

none_grown : (before after : Option (List Act)) → Grows before [] after → after ≡ before
none_grown None after h = h
none_grown (Some xs) after h = h ∙ ap Some (append-nil xs)

run_done : (o : Over) (text : List ℕ) (s : Script) (end : LiveRan) → IsLiveScript s → Begins text (3 + length s.events) s → RunsOver o s end → IsDone text o.carried.acts o.carried_after.acts
run_done o text s end lawful begins r = inr (record { script = s; lawful = lawful; begins = begins; answers = r.answers; end = end; lived = r.lived; acts = front_all o.carried.acts o.carried_after.acts end.live.acts r.acts })

past_three : (n : ℕ) → nat_le n 3 ≡ false → 3 < n
past_three n e = grind (arith, nat_tests)

refused_done : (o : Over) (text out : List ℕ) (n : ℕ) (s : Script) (early : Bool) → nat_le n 3 ≡ early → FirstOutside text n s → PrintedBefore early o s out → IsDone text o.carried.acts o.carried_after.acts
refused_done o text out n s true e f p = inl (none_grown o.carried.acts o.carried_after.acts p.3)
refused_done o text out n s false e f p =
    let past : 3 < n = past_three n e in
    let events : length s.events ≡ n - 4 = f.events in
    let at : n - 1 ≡ 3 + length s.events = omega (arith, past, events) in
    run_done o text s (goes p.0) f.lawful (subst (λ (k : ℕ). Begins text k s) at f.begins) p.1

outcome_done : (o : Over) (text : List ℕ) (status : Status) (out : List ℕ) → Outcome o text status out → IsDone text o.carried.acts o.carried_after.acts
outcome_done o text Done out h = run_done o text h.script (goes h.end) h.lawful (ap (λ (ls : List (List ℕ)). take (3 + length h.script.events) ls) h.tells) h.run
outcome_done o text (AtLine n) out h = refused_done o text out n h.before (nat_le n 3) refl h.first h.printed
outcome_done o text (Limit which) out h = run_done o text h.script h.end h.lawful h.begins h.run
outcome_done o text (Illegal line clause) out h = absurd h
outcome_done o text Words out h = absurd h
outcome_done o text ReadFault out h = absurd h
outcome_done o text WriteFault out h = absurd h
outcome_done o text LinkFault out h = absurd h
outcome_done o text NoMemory out h = absurd h

ends_done : (o : Over) (text : List ℕ) (status : Status) (k : Option Kept) → Ends o text status k → IsDone text o.carried.acts o.carried_after.acts
ends_done o text status None h = outcome_done o text status [] h
ends_done o text status (Some k) h = outcome_done o text status _ h.3

pub finished_done : (left : Option (List ℕ)) (o : Over) (f : Finish) → IfSome left (λ text. Finished o text f) → IfSome left (λ text. IsDone text o.carried.acts o.carried_after.acts)
finished_done None o f h = tt
finished_done (Some text) o f h = ends_done o text (status_of f.end) f.live h
