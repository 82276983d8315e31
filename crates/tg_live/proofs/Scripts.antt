-- A script of a live run that is read line by line: how it goes on, and where it ends.
use Rattle.std.proofs.Common.{◌≡◌, ◌∙◌, ℕ, zero, suc, ◌+◌, ◌-◌, ◌<◌, ◌≤◌, Bool, true, false, List, [], ◌∷◌, ◌++◌, length, take, map, Option, Some, None, refl, sym, ap, subst, ⊎_elim, arith, append_assoc}
use Rattle.std.proofs.lemmas.List.{length-map, map-append, append-nil}
use Rattle.std.specs.Prelude.{slice_get, nat_le}
use Rattle.tg_base.specs.Clusters.{Header, IsHeader}
use Rattle.tg_base.specs.declared.fault.Which.{Which}
use Rattle.tg_io.specs.Bytes.{Grows}
use Rattle.tg_io.proofs.Bytes.{grows_none}
use Rattle.tg_lines.specs.Lines.{lines}
use Rattle.tg_replay.specs.Runs.{Script, line_text, text_lines, front}
use Rattle.tg_replay.proofs.Lists.{front_and_next, front_more, take_next, length_last, last_or_before, take_whole, take_within, take_self, image}
use Rattle.tg_script.specs.Headers.{header_lines, IsFirstOutside}
use Rattle.tg_script.specs.declared.line.Line.{Line}
use Rattle.tg_script.proofs.Clusters.{same_header}
use Rattle.tg_live.specs.declared.live.Went.{Went}
use Rattle.tg_live.specs.declared.stages.Running.{Running}
use Rattle.tg_live.specs.Lives.{Answer, Live, LiveRan, goes, opened, Follows, Then, IsFed, IsLived}
use Rattle.tg_live.specs.Kept.{Keeps, Made}
use Rattle.tg_live.specs.Scripts.{IsLiveLine, IsLiveScript, Over, RunsOver, Replayed, PrintedBefore, Refused, Limited, printed}
use Rattle.tg_live.specs.Sends.{Carried}
use Rattle.tg_live.specs.Stages.{IsRunOf}
use Rattle.tg_live.proofs.Packets.{grows_by}
use Rattle.tg_live.proofs.Parts.{follows_on}
use Rattle.tg_live.proofs.Recording.{run_recorded, run_recording}

-- the script with one line more
abbrev pub longer : Script → Line → Script
longer s l = record { header = s.header; events = s.events ++ l ∷ [] }

front_whole : (s : Script) → front (length s.events) s ≡ s
front_whole s = ap (λ (ls : List Line). record { header = s.header; events = ls }) (take_self s.events)

-- a script goes on by a line
pub script_longer : (s : Script) (l : Line) → IsLiveScript s → IsLiveLine s.header l → IsLiveScript (longer s l)
script_longer s l h is = record {
  header = h.header;
  each = λ k m e. ⊎_elim
      (λ (b : (k < length s.events) × (slice_get s.events k ≡ Some m)). h.each k m b.1)
      (λ (b : (k ≡ length s.events) × (l ≡ m)). subst (λ (x : Line). IsLiveLine s.header x) b.1 is)
      (last_or_before s.events l k m e);
}

pub text_longer : (s : Script) (l : Line) → text_lines (longer s l) ≡ text_lines s ++ line_text l ∷ []
text_longer s l = ap (λ (ls : List (List ℕ)). header_lines s.header ++ ls) (map-append line_text s.events (l ∷ []))

-- ---- the live run of a script with one line more

went_on : (o : Option Which) (mid : LiveRan) (rest : List Answer) (m : Live) (P : Type 0) → mid.stopped ≡ o → Follows o mid rest (goes m) P → P × (mid.stopped ≡ None)
went_on None mid rest m P e p = (p, e)
went_on (Some x) mid rest m P e p = let f : None ≡ Some x = ap (λ (r : LiveRan). r.stopped) p.1 ∙ e in absurd cc

one_line : (x : Line) (more : List Answer) (l : Live) (end : LiveRan) → IsFed x more l end → Then (IsFed x) (IsLived []) more l end
one_line x more l end fed = record { taken = more; rest = []; dealt = sym (append-nil more); middle = end; before = fed; after = by end.stopped refl }
  where
    by : (o : Option Which) → end.stopped ≡ o → Follows o end [] end (IsLived [] [] end.live end)
    by None e = (refl, λ i. record { live = end.live; stopped = e i })
    by (Some y) e = (refl, refl)

pub lived_longer : (xs : List Line) (x : Line) (ans more : List Answer) (l m : Live) (end : LiveRan) → IsLived xs ans l (goes m) → IsFed x more m end → IsLived (xs ++ x ∷ []) (ans ++ more) l end
lived_longer [] x ans more l m end lived fed =
    let same : l ≡ m = ap (λ (r : LiveRan). r.live) (sym lived.1) in
    subst (λ (bs : List Answer). Then (IsFed x) (IsLived []) bs l end) (ap (λ (bs : List Answer). bs ++ more) (sym lived.0))
    (one_line x more l end (subst (λ (k : Live). IsFed x more k end) (sym same) fed))
lived_longer (y ∷ ys) x ans more l m end lived fed =
    let on = went_on lived.middle.stopped lived.middle lived.rest m (IsLived ys lived.rest lived.middle.live (goes m)) refl lived.after in
    record {
      taken = lived.taken;
      rest = lived.rest ++ more;
      dealt = ap (λ (bs : List Answer). bs ++ more) lived.dealt ∙ append_assoc lived.taken lived.rest more;
      middle = lived.middle;
      before = lived.before;
      after = follows_on lived.middle.stopped lived.middle (lived.rest ++ more) end (IsLived (ys ++ x ∷ []) (lived.rest ++ more) lived.middle.live end) on.1
          (lived_longer ys x lived.rest more lived.middle.live m end on.0 fed);
    }

-- ---- the lines that were read

-- The next line of a script that begins with the lines of a run.
pub record Next (t s : Script) (line : List ℕ) : Type 0 where
  pub event : Line
  pub there : slice_get t.events (length s.events) ≡ Some event
  pub spelled : line ≡ line_text event
  pub same : front (length s.events) t ≡ s
  pub is : IsLiveLine s.header event

pub many_lines : (o : Over) (read : List (List ℕ)) (r : Running) (s : Script) → IsRunOf o read r s → length read ≡ suc (suc (suc (length s.events)))
many_lines o read r s h = ap length h.lines ∙ ap (λ n. suc (suc (suc n))) (length-map s.events line_text)

next_line : (o : Over) (read : List (List ℕ)) (r : Running) (s : Script) → IsRunOf o read r s → (t : Script) → IsLiveScript t → (line : List ℕ) → take (suc (length read)) (text_lines t) ≡ read ++ line ∷ [] → Next t s line
next_line o read r s h t lawful line e =
    let parts = front_and_next (text_lines t) read line e in
    let same : front (length s.events) t ≡ s = h.only t lawful parts.0 in
    let found : slice_get (map line_text t.events) (length s.events) ≡ Some line = ap (λ n. slice_get (text_lines t) n) (sym (many_lines o read r s h)) ∙ parts.1 in
    let event = image line_text t.events (length s.events) line found in
    record {
      event = event.0;
      there = event.1;
      spelled = sym event.2;
      same = same;
      is = subst (λ (x : Script). IsLiveLine x.header event.0) same (lawful.each (length s.events) event.0 event.1);
    }

-- what a link tells after a part more
abbrev pub later : Over → Option (List Answer) → Carried → Over
later o handed now = record o { handed_after = handed; carried_after = now }

-- a run goes on by a line
pub run_goes_on : (o : Over) (read : List (List ℕ)) (r : Running) (s : Script) (line : List ℕ) (l : Line) (h : IsRunOf o read r s) → (handed : Option (List Answer)) (now : Carried) (w : Went)
    → IsLiveLine s.header l → line ≡ line_text l → ((m : Line) → IsLiveLine s.header m → line ≡ line_text m → m ≡ l)
    → Made (IsFed l) s.header o.carried now o.handed_after handed h.live w → w.stopped ≡ None → IsRunOf (later o handed now) (read ++ line ∷ []) (record { live = w.live; lines = r.lines + 1 }) (longer s l)
run_goes_on o read r s line l h handed now w is spelled one m none =
    let on : m.end ≡ goes m.end.live = (let e : m.end.stopped ≡ None = sym m.kept.stopped ∙ none in λ i. record { live = m.end.live; stopped = e i }) in
    record {
      lawful = script_longer s l h.lawful is;
      lines = ap (λ (x : List (List ℕ)). x ++ line ∷ []) h.lines ∙ ap (λ (x : List ℕ). text_lines s ++ x ∷ []) spelled ∙ sym (text_longer s l);
      count = let a = h.count in let b = length_last s.events l in omega arith;
      answers = h.answers ++ m.answers;
      live = m.end.live;
      lived = subst (λ (e : LiveRan). IsLived (s.events ++ l ∷ []) (h.answers ++ m.answers) (opened s.header) e) on (lived_longer s.events l h.answers m.answers (opened s.header) h.live m.end h.lived m.is);
      took = grows_by o.handed o.handed_after handed h.answers m.answers h.took m.handed;
      kept = m.kept.live;
      only = λ t lawful e.
          let e2 : take (suc (length read)) (text_lines t) ≡ read ++ line ∷ [] = ap (λ n. take n (text_lines t)) (sym (length_last read line)) ∙ e in
          let n = next_line o read r s h t lawful line e2 in
          let event : n.event ≡ l = one n.event n.is n.spelled in
          let whole : take (length (s.events ++ l ∷ [])) t.events ≡ s.events ++ l ∷ [] =
          ap (λ k. take k t.events) (length_last s.events l) ∙ take_next t.events (length s.events) n.event n.there
          ∙ ap (λ (x : List Line). x ++ n.event ∷ []) (ap (λ (x : Script). x.events) n.same) ∙ ap (λ (x : Line). s.events ++ x ∷ []) event in
          λ i. record { header = (n.same i).header; events = whole i };
    }

runs_over : (o : Over) (read : List (List ℕ)) (r : Running) (s : Script) (h : IsRunOf o read r s) → RunsOver o s (goes h.live)
runs_over o read r s h = record { answers = h.answers; lived = h.lived; took = h.took; sends = h.kept.sent; acts = h.kept.acts }

-- Where a line ends the script: each refusal, at its line.

-- a line that no script has next
pub refuses_event : (o : Over) (text line : List ℕ) (read more : List (List ℕ)) (r : Running) (s : Script) (h : IsRunOf o read r s) → lines text ≡ read ++ line ∷ more →
    ((m : Line) → IsLiveLine s.header m → line ≡ line_text m → ⊥) → (n : ℕ) → n ≡ 4 + length s.events → Refused o text n (printed s.header h.live)
refuses_event o text line read more r s h cut none n at =
    let long : length read ≡ suc (suc (suc (length s.events))) = many_lines o read r s h in
    let before : n - 1 ≡ length read = omega arith in
    let here : n ≡ suc (length read) = omega arith in
    let past : nat_le n 3 ≡ false = grind arith in
    record {
      before = s;
      first = record {
        line = omega arith;
        lawful = h.lawful;
        events = omega arith;
        begins = ap (λ k. take k (lines text)) before ∙ ap (λ (ls : List (List ℕ)). take (length read) ls) cut ∙ take_whole read (line ∷ more) ∙ h.lines
            ∙ sym (ap (λ k. take k (text_lines s)) (before ∙ ap length h.lines) ∙ take_self (text_lines s));
        outside = λ t lawful b.
            let e : take (suc (length read)) (text_lines t) ≡ read ++ line ∷ [] =
            ap (λ k. take k (text_lines t)) (sym here) ∙ (sym b ∙ ap (λ k. take k (lines text)) here ∙ ap (λ (ls : List (List ℕ)). take (suc (length read)) ls) cut ∙ front_more read more line) in
            let m = next_line o read r s h t lawful line e in none m.event m.is m.spelled;
      };
      printed = subst (λ (b : Bool). PrintedBefore b o s (printed s.header h.live)) (sym past) (h.live, runs_over o read r s h, run_recorded s h.answers h.live h.lawful h.lived, refl);
    }

-- the script of a header alone
abbrev pub opening : Header → Script
opening h = record { header = h; events = [] }

pub opening_lawful : (h : Header) → IsHeader h → IsLiveScript (opening h)
opening_lawful h e = record { header = e; each = λ k l f. absurd cc }

-- no line stands before the first
not_at_none : (xs : List (List ℕ)) → IsFirstOutside xs 0 → ⊥
not_at_none xs h = h.outside (record { header = record { units = 1; layouts = 1; seqs = 1; clients = 1; limit = 1; chains = (0 ∷ []) ∷ []; objects = [] }; lawful = refl; same = refl })

begins_header : (h : Header) (xs : List (List ℕ)) (n : ℕ) → n ≤ 3 → take n (header_lines h ++ xs) ≡ take n (header_lines h)
begins_header h xs n le = take_within (header_lines h) xs n le

-- a line of the header that is refused
pub refuses_header : (o : Over) (text : List ℕ) (n : ℕ) → n ≤ 3 → IsFirstOutside (lines text) n → o.handed_after ≡ o.handed → o.carried_after ≡ o.carried → Refused o text n []
refuses_header o text zero le h took none = absurd (not_at_none (lines text) h)
refuses_header o text (suc n) le h took none =
    let few : n ≤ 3 = omega arith in
    let f = h.before n (omega arith) in
    let early : nat_le (suc n) 3 ≡ true = grind arith in
    let less : suc n - 1 ≡ n = omega arith in
    record {
      before = opening f.header;
      first = record {
        line = omega arith;
        lawful = opening_lawful f.header f.lawful;
        events = omega arith;
        begins = ap (λ k. take k (lines text)) less ∙ f.same ∙ sym (begins_header f.header [] n few) ∙ sym (ap (λ k. take k (text_lines (opening f.header))) less);
        outside = λ t lawful b. h.outside (record { header = t.header; lawful = lawful.header; same = b ∙ begins_header t.header (map line_text t.events) (suc n) le });
      };
      printed = subst (λ (b : Bool). PrintedBefore b o (opening f.header) []) (sym early) (
        refl,
        subst (λ (x : Carried). Grows o.carried.sent [] x.sent) (sym none) (grows_none o.carried.sent),
        subst (λ (x : Option (List Answer)). Grows o.handed [] x) (sym took) (grows_none o.handed),
        subst (λ (x : Carried). Grows o.carried.acts [] x.acts) (sym none) (grows_none o.carried.acts),
      );
    }

-- the run of a header alone
pub run_opens : (o : Over) (h : Header) (r : Running) → IsHeader h → o.handed_after ≡ o.handed → Keeps h o.carried o.carried_after r.live (opened h) → r.lines ≡ 0 → IsRunOf o (header_lines h) r (opening h)
run_opens o h r lawful took kept count = record {
  lawful = opening_lawful h lawful;
  lines = refl;
  count = count;
  answers = [];
  live = opened h;
  lived = (refl, refl);
  took = subst (λ (x : Option (List Answer)). Grows o.handed [] x) (sym took) (grows_none o.handed);
  kept = kept;
  only = λ t is e.
      let same : t.header ≡ h = same_header t.header h is.header lawful (header_lines h) (sym e) refl in
      λ i. record { header = same i; events = [] };
}

-- the end of the text
pub run_ends : (o : Over) (text : List ℕ) (read : List (List ℕ)) (r : Running) (s : Script) (h : IsRunOf o read r s) → lines text ≡ read → Replayed o text (printed s.header h.live)
run_ends o text read r s h cut = record {
  script = s;
  lawful = h.lawful;
  tells = cut ∙ h.lines;
  end = h.live;
  run = runs_over o read r s h;
  recorded = run_recorded s h.answers h.live h.lawful h.lived;
  printed = refl;
}

-- a limit
pub run_limited : (o : Over) (text line : List ℕ) (read more : List (List ℕ)) (r : Running) (s : Script) (l : Line) (which : Which) (h : IsRunOf o read r s) → (handed : Option (List Answer)) (now : Carried) (w : Went)
    → lines text ≡ read ++ line ∷ more → IsLiveLine s.header l → line ≡ line_text l → (m : Made (IsFed l) s.header o.carried now o.handed_after handed h.live w) → w.stopped ≡ Some which
    → Limited (later o handed now) text which (printed s.header m.end.live)
run_limited o text line read more r s l which h handed now w cut is spelled m over =
    let long = many_lines o read r s h in
    let count : 3 + length (s.events ++ l ∷ []) ≡ suc (length read) = let e = length_last s.events l in omega arith in
    let same : read ++ line ∷ [] ≡ text_lines (longer s l) = ap (λ (x : List (List ℕ)). x ++ line ∷ []) h.lines ∙ ap (λ (x : List ℕ). text_lines s ++ x ∷ []) spelled ∙ sym (text_longer s l) in
    let whole : take (3 + length (s.events ++ l ∷ [])) (text_lines (longer s l)) ≡ text_lines (longer s l) =
    ap (λ n. take n (text_lines (longer s l))) (count ∙ sym (length_last read line) ∙ ap length same) ∙ take_self (text_lines (longer s l)) in
    let lawful = script_longer s l h.lawful is in
    let lived : IsLived (s.events ++ l ∷ []) (h.answers ++ m.answers) (opened s.header) m.end = lived_longer s.events l h.answers m.answers (opened s.header) h.live m.end h.lived m.is in
    record {
      script = longer s l;
      lawful = lawful;
      begins = ap (λ n. take n (lines text)) count ∙ ap (λ (ls : List (List ℕ)). take (suc (length read)) ls) cut ∙ front_more read more line ∙ same ∙ sym whole;
      end = m.end;
      over = sym m.kept.stopped ∙ over;
      run = record {
        answers = h.answers ++ m.answers;
        lived = lived;
        took = grows_by o.handed o.handed_after handed h.answers m.answers h.took m.handed;
        sends = m.kept.live.sent;
        acts = m.kept.live.acts;
      };
      recorded = run_recording (longer s l) (h.answers ++ m.answers) m.end lawful lived;
      printed = refl;
    }
