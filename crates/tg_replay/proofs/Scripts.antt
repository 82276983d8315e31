-- A script that is read line by line: how it goes on, and where it ends.
use Rattle.std.proofs.Common.{◌≡◌, ℕ, zero, suc, ◌+◌, ◌-◌, ◌<◌, ◌≤◌, ◌^◌, List, [], ◌∷◌, ◌++◌, length, take, map, refl, sym, ap, ◌∙◌, subst, ⊎_elim, arith, Some, None, true, false}
use Rattle.std.proofs.lemmas.List.{length-map, map-append}
use Rattle.std.specs.Prelude.{slice_get, nat_le}
use Rattle.tg_base.specs.Clusters.{Header, IsHeader}
use Rattle.tg_base.specs.declared.fault.Which.{Which}
use Rattle.tg_protocol.specs.Worlds.{start}
use Rattle.tg_script.specs.Headers.{header_lines, IsFirstOutside}
use Rattle.tg_script.specs.declared.line.Line.{Line}
use Rattle.tg_script.proofs.Clusters.{same_header}
use Rattle.tg_world.specs.Kept.{KeepsWorld}
use Rattle.tg_any.specs.AllKinds.{all_kinds}
use Rattle.tg_replay.specs.declared.stages.Run.{Run}
use Rattle.tg_replay.specs.Runs.{Script, IsScript, IsWithin, IsCounted, IsLine, MayCome, Runs, line_on, lines_on, line_text, text_lines, run_of, world_of, front, transcript, FirstOutside, PassesLimit, Replayed, Refused, Limited, printed_before}
use Rattle.tg_lines.specs.Lines.{lines}
use Rattle.tg_replay.specs.Stages.{IsRunOf, IsAfter}
use Rattle.tg_replay.proofs.Lists.{front_and_next, front_more, take_next, length_last, last_or_before, take_whole, take_within, take_self, image}
use Rattle.tg_replay.proofs.Making.{lines_longer}

-- the script with one line more
abbrev pub longer : Script → Line → Script
longer s l = record { header = s.header; events = s.events ++ l ∷ [] }

pub front_whole : (s : Script) → front (length s.events) s ≡ s
front_whole s = ap (λ (ls : List Line). record { header = s.header; events = ls }) (take_self s.events)

front_longer : (s : Script) (l : Line) (k : ℕ) → k ≤ length s.events → front k (longer s l) ≡ front k s
front_longer s l k h = ap (λ (ls : List Line). record { header = s.header; events = ls }) (take_within s.events (l ∷ []) k h)

at_end : (s : Script) (l : Line) (k : ℕ) → k ≡ length s.events → front k (longer s l) ≡ s
at_end s l k e = let h : k ≤ length s.events = omega arith in front_longer s l k h ∙ ap (λ n. front n s) e ∙ front_whole s

-- a script goes on by a line that may come
pub script_longer : (s : Script) (l : Line) → IsScript s → IsLine s.header l → MayCome (world_of s) l → IsScript (longer s l)
script_longer s l h is comes = record {
  header = h.header;
  each = λ k m e. ⊎_elim
      (λ (b : (k < length s.events) × (slice_get s.events k ≡ Some m)). h.each k m b.1)
      (λ (b : (k ≡ length s.events) × (l ≡ m)). subst (λ (x : Line). IsLine s.header x) b.1 is)
      (last_or_before s.events l k m e);
  comes = λ k m e. ⊎_elim
      (λ (b : (k < length s.events) × (slice_get s.events k ≡ Some m)).
      let le : k ≤ length s.events = let lt = b.0 in omega arith in
      subst (λ (t : Script). MayCome (world_of t) m) (sym (front_longer s l k le)) (h.comes k m b.1))
      (λ (b : (k ≡ length s.events) × (l ≡ m)).
      subst (λ (t : Script). MayCome (world_of t) m) (sym (at_end s l k b.0)) (subst (λ (x : Line). MayCome (world_of s) x) b.1 comes))
      (last_or_before s.events l k m e);
}

pub text_longer : (s : Script) (l : Line) → text_lines (longer s l) ≡ text_lines s ++ line_text l ∷ []
text_longer s l = ap (λ (ls : List (List ℕ)). header_lines s.header ++ ls) (map-append line_text s.events (l ∷ []))

pub run_longer : (s : Script) (l : Line) → IsWithin s → run_of (longer s l) ≡ line_on (world_of s) l
run_longer s l within = lines_longer s.events l (start all_kinds s.header) within

-- The next line of a script that begins with the lines of a run.
pub record Next (t s : Script) (line : List ℕ) : Type 0 where
  pub event : Line
  pub there : slice_get t.events (length s.events) ≡ Some event
  pub spelled : line ≡ line_text event
  pub same : front (length s.events) t ≡ s
  pub is : IsLine s.header event
  pub comes : MayCome (world_of s) event

pub many_lines : (read : List (List ℕ)) (r : Run) (s : Script) → IsRunOf read r s → length read ≡ suc (suc (suc (length s.events)))
many_lines read r s h = ap length h.lines ∙ ap (λ n. suc (suc (suc n))) (length-map s.events line_text)

pub next_line : (read : List (List ℕ)) (r : Run) (s : Script) → IsRunOf read r s → (t : Script) → IsScript t → (line : List ℕ) → take (suc (length read)) (text_lines t) ≡ read ++ line ∷ [] → Next t s line
next_line read r s h t lawful line e =
    let parts = front_and_next (text_lines t) read line e in
    let same : front (length s.events) t ≡ s = h.only t lawful parts.0 in
    let found : slice_get (map line_text t.events) (length s.events) ≡ Some line = ap (λ n. slice_get (text_lines t) n) (sym (many_lines read r s h)) ∙ parts.1 in
    let event = image line_text t.events (length s.events) line found in
    record {
      event = event.0;
      there = event.1;
      spelled = sym event.2;
      same = same;
      is = subst (λ (x : Script). IsLine x.header event.0) same (lawful.each (length s.events) event.0 event.1);
      comes = subst (λ (x : Script). MayCome (world_of x) event.0) same (lawful.comes (length s.events) event.0 event.1);
    }

counted_longer : (read : List (List ℕ)) (r : Run) (s : Script) (l : Line) → IsRunOf read r s → r.world.event + 4 < 2 ^ 64 → IsCounted (longer s l)
counted_longer read r s l h room = let a = h.events in let b = length_last s.events l in omega (arith, a, b, room)

-- a run goes on by a line
pub run_goes_on : (read : List (List ℕ)) (r q : Run) (s : Script) (line : List ℕ) (l : Line) → IsRunOf read r s → r.world.event + 4 < 2 ^ 64 → IsLine s.header l → MayCome (world_of s) l → line ≡ line_text l →
    ((m : Line) → IsLine s.header m → line ≡ line_text m → m ≡ l) → (line_on (world_of s) l).stopped ≡ None → IsAfter r (line_on (world_of s) l).world q → IsRunOf (read ++ line ∷ []) q (longer s l)
run_goes_on read r q s line l h room is comes spelled one within after =
    let runs : run_of (longer s l) ≡ line_on (world_of s) l = run_longer s l h.within in
    record {
      lawful = script_longer s l h.lawful is comes;
      within = ap (λ (x : Runs). x.stopped) runs ∙ within;
      counted = counted_longer read r s l h room;
      lines = ap (λ (x : List (List ℕ)). x ++ line ∷ []) h.lines ∙ ap (λ (x : List ℕ). text_lines s ++ x ∷ []) spelled ∙ sym (text_longer s l);
      cluster = after.cluster ∙ h.cluster;
      world = subst (λ (x : Runs). KeepsWorld all_kinds q.world x.world) (sym runs) after.world;
      events = let a = h.events in let b = length_last s.events l in let e = after.events in omega arith;
      only = λ t lawful e.
          let e2 : take (suc (length read)) (text_lines t) ≡ read ++ line ∷ [] = ap (λ n. take n (text_lines t)) (sym (length_last read line)) ∙ e in
          let n = next_line read r s h t lawful line e2 in
          let event : n.event ≡ l = one n.event n.is n.spelled in
          let whole : take (length (s.events ++ l ∷ [])) t.events ≡ s.events ++ l ∷ [] =
          ap (λ k. take k t.events) (length_last s.events l) ∙ take_next t.events (length s.events) n.event n.there
          ∙ ap (λ (x : List Line). x ++ n.event ∷ []) (ap (λ (x : Script). x.events) n.same) ∙ ap (λ (x : Line). s.events ++ x ∷ []) event in
          λ i. record { header = (n.same i).header; events = whole i };
    }

-- Where a line ends the script: each refusal, at its line.

-- a line that no script has next
pub first_event : (text line : List ℕ) (read more : List (List ℕ)) (r : Run) (s : Script) → IsRunOf read r s → lines text ≡ read ++ line ∷ more →
    ((m : Line) → IsLine s.header m → MayCome (world_of s) m → line ≡ line_text m → ⊥) → (n : ℕ) → n ≡ 4 + length s.events → FirstOutside text n s
first_event text line read more r s h cut none n at =
    let long : length read ≡ suc (suc (suc (length s.events))) = many_lines read r s h in
    let before : n - 1 ≡ length read = omega arith in
    let here : n ≡ suc (length read) = omega arith in
    record {
      line = omega arith;
      lawful = h.lawful;
      within = h.within;
      events = omega arith;
      begins = ap (λ k. take k (lines text)) before ∙ ap (λ (ls : List (List ℕ)). take (length read) ls) cut ∙ take_whole read (line ∷ more) ∙ h.lines
          ∙ sym (ap (λ k. take k (text_lines s)) (before ∙ ap length h.lines) ∙ take_self (text_lines s));
      outside = λ t lawful b.
          let e : take (suc (length read)) (text_lines t) ≡ read ++ line ∷ [] =
          ap (λ k. take k (text_lines t)) (sym here) ∙ (sym b ∙ ap (λ k. take k (lines text)) here ∙ ap (λ (ls : List (List ℕ)). take (suc (length read)) ls) cut ∙ front_more read more line) in
          let m = next_line read r s h t lawful line e in none m.event m.is m.comes m.spelled;
    }

pub refuses_event : (text line : List ℕ) (read more : List (List ℕ)) (r : Run) (s : Script) → IsRunOf read r s → lines text ≡ read ++ line ∷ more →
    ((m : Line) → IsLine s.header m → MayCome (world_of s) m → line ≡ line_text m → ⊥) → (n : ℕ) → n ≡ 4 + length s.events → Refused text n (transcript s.header (world_of s))
refuses_event text line read more r s h cut none n at =
    let past : nat_le n 3 ≡ false = grind arith in
    record {
      before = s;
      first = first_event text line read more r s h cut none n at;
      counted = h.counted;
      printed = sym (ap (λ b. printed_before b s) past);
    }

-- the script of a header alone
abbrev pub opening : Header → Script
opening h = record { header = h; events = [] }

pub opening_lawful : (h : Header) → IsHeader h → IsScript (opening h)
opening_lawful h e = record { header = e; each = λ k l f. absurd cc; comes = λ k l f. absurd cc }

pub opening_within : (h : Header) → IsWithin (opening h)
unfolding lines_on
opening_within h = refl

opening_counted : (h : Header) → IsCounted (opening h)
opening_counted h = omega arith

one_unit : Header
one_unit = record { units = 1; layouts = 1; seqs = 1; clients = 1; limit = 1; chains = (0 ∷ []) ∷ []; objects = [] }

-- no line stands before the first
not_at_none : (xs : List (List ℕ)) → IsFirstOutside xs 0 → ⊥
not_at_none xs h = h.outside (record { header = record { units = 1; layouts = 1; seqs = 1; clients = 1; limit = 1; chains = (0 ∷ []) ∷ []; objects = [] }; lawful = refl; same = refl })

begins_header : (h : Header) (xs : List (List ℕ)) (n : ℕ) → n ≤ 3 → take n (header_lines h ++ xs) ≡ take n (header_lines h)
begins_header h xs n le = take_within (header_lines h) xs n le

-- a line of the header that is refused
pub refuses_header : (text : List ℕ) (n : ℕ) → n ≤ 3 → IsFirstOutside (lines text) n → Refused text n []
refuses_header text zero le h = absurd (not_at_none (lines text) h)
refuses_header text (suc n) le h =
    let few : n ≤ 3 = omega arith in
    let f = h.before n (omega arith) in
    let early : nat_le (suc n) 3 ≡ true = grind arith in
    let less : suc n - 1 ≡ n = omega arith in
    record {
      before = opening f.header;
      first = record {
        line = omega arith;
        lawful = opening_lawful f.header f.lawful;
        within = opening_within f.header;
        events = omega arith;
        begins = ap (λ k. take k (lines text)) less ∙ f.same ∙ sym (begins_header f.header [] n few) ∙ sym (ap (λ k. take k (text_lines (opening f.header))) less);
        outside = λ t lawful b. h.outside (record { header = t.header; lawful = lawful.header; same = b ∙ begins_header t.header (map line_text t.events) (suc n) le });
      };
      counted = opening_counted f.header;
      printed = sym (ap (λ b. printed_before b (opening f.header)) early);
    }

-- the run of a header alone
pub run_opens : (h : Header) (r : Run) → IsHeader h → r.cluster ≡ h → KeepsWorld all_kinds r.world (start all_kinds h) → r.world.event ≡ 0 → IsRunOf (header_lines h) r (opening h)
unfolding lines_on
run_opens h r lawful cluster world events = record {
  lawful = opening_lawful h lawful;
  within = refl;
  counted = opening_counted h;
  lines = refl;
  cluster = cluster;
  world = world;
  events = events;
  only = λ t is e.
      let same : t.header ≡ h = same_header t.header h is.header lawful (header_lines h) (sym e) refl in
      λ i. record { header = same i; events = [] };
}

-- the end of the text
pub run_ends : (text : List ℕ) (read : List (List ℕ)) (r : Run) (s : Script) → IsRunOf read r s → lines text ≡ read → Replayed text (transcript s.header (world_of s))
run_ends text read r s h cut = record { script = s; lawful = h.lawful; within = h.within; counted = h.counted; tells = cut ∙ h.lines; printed = refl }

-- a limit
pub passes_limit : (text line : List ℕ) (read more : List (List ℕ)) (r : Run) (s : Script) (l : Line) (which : Which) → IsRunOf read r s → lines text ≡ read ++ line ∷ more →
    IsLine s.header l → MayCome (world_of s) l → line ≡ line_text l → (line_on (world_of s) l).stopped ≡ Some which → PassesLimit text which (longer s l)
passes_limit text line read more r s l which h cut is comes spelled over =
    let long = many_lines read r s h in
    let count : 3 + length (s.events ++ l ∷ []) ≡ suc (length read) = let e = length_last s.events l in omega arith in
    let same : read ++ line ∷ [] ≡ text_lines (longer s l) = ap (λ (x : List (List ℕ)). x ++ line ∷ []) h.lines ∙ ap (λ (x : List ℕ). text_lines s ++ x ∷ []) spelled ∙ sym (text_longer s l) in
    let whole : take (3 + length (s.events ++ l ∷ [])) (text_lines (longer s l)) ≡ text_lines (longer s l) =
    ap (λ n. take n (text_lines (longer s l))) (count ∙ sym (length_last read line) ∙ ap length same) ∙ take_self (text_lines (longer s l)) in
    let before : length (s.events ++ l ∷ []) - 1 ≡ length s.events = let e = length_last s.events l in omega arith in
    record {
      lawful = script_longer s l h.lawful is comes;
      begins = ap (λ n. take n (lines text)) count ∙ ap (λ (ls : List (List ℕ)). take (suc (length read)) ls) cut ∙ front_more read more line ∙ same ∙ sym whole;
      over = ap (λ (x : Runs). x.stopped) (run_longer s l h.within) ∙ over;
      before = subst IsWithin (sym (at_end s l (length (s.events ++ l ∷ []) - 1) before)) h.within;
    }

pub run_limited : (text line : List ℕ) (read more : List (List ℕ)) (r : Run) (s : Script) (l : Line) (which : Which) → IsRunOf read r s → r.world.event + 4 < 2 ^ 64 → lines text ≡ read ++ line ∷ more →
    IsLine s.header l → MayCome (world_of s) l → line ≡ line_text l → (line_on (world_of s) l).stopped ≡ Some which → Limited text which (transcript s.header (world_of (longer s l)))
run_limited text line read more r s l which h room cut is comes spelled over = record {
  script = longer s l;
  passes = passes_limit text line read more r s l which h cut is comes spelled over;
  counted = counted_longer read r s l h room;
  printed = refl;
}
