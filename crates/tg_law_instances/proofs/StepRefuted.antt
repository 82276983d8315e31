-- Steps from changed worlds, of which what is claimed of a step fails.
use Rattle.std.proofs.Common.{◌≡◌, ◌⊎◌, ℕ, List, [], ◌∷◌, length, Bool, true, false, Option, Some, None, refl, sym, ap, ◌∙◌, subst, inl, inr}
use Rattle.std.specs.Prelude.{◌+◌, ◌&&◌, ◌||◌, ◌==◌, not, nat_lt, nat_le, map, Contains, if◌then◌else◌}
use Rattle.std.specs.List.{list_any, list_all}
use Rattle.tg_base.specs.declared.cell.Cell.{Cell}
use Rattle.tg_base.specs.declared.cell.Cell.TheVariants.{Junk, Data}
use Rattle.tg_base.specs.declared.ids.Oid.{Oid}
use Rattle.tg_base.specs.declared.msg.Msg.TheVariants as msg
use Rattle.tg_model.specs.declared.command.Command.TheVariants as cmd
use Rattle.tg_model.specs.declared.command.Event.TheVariants.{Command as Commands}
use Rattle.tg_model.specs.declared.refusal.Refusal.{Refusal}
use Rattle.tg_model.specs.declared.refusal.Refusal.TheVariants as cause
use Rattle.tg_model.specs.declared.trace.What.TheVariants as told
use Rattle.tg_model.specs.Kinds.{CommandOf, WhatOf}
use Rattle.tg_model.specs.Stores.{state_at}
use Rattle.tg_protocol.specs.Words.{client_id, cell_at, numbers, directory, or_else}
use Rattle.tg_base.specs.Orders.{oid_eq}
use Rattle.tg_protocol.specs.Entries.{is_commit}
use Rattle.tg_protocol.specs.Pages.{entry_of}
use Rattle.tg_protocol.specs.Logs.{members}
use Rattle.tg_protocol.specs.Clients.{Client, Work, upto, known, work_cells}
use Rattle.tg_protocol.specs.Stuck.{command_in, StuckTrue}
use Rattle.tg_protocol.specs.Walked.{Walked, walked_in, walked_from, positions_found}
use Rattle.tg_protocol.specs.Worlds.{CommandStart, Told, Line, client, runs, log, history, next_event, happens}
use Rattle.tg_protocol.specs.Runs.{Move, Later, run, most_steps}
use Rattle.tg_protocol.specs.Playing.{from_to, SyncsExact, IsOwn, PlaysOn}
use Rattle.tg_protocol.specs.Causes.{layout_cause, RefusalsTrue, CausesRefuse, UnsureTrue, RefusalsKeep, IsNone, SaysNone, NonesTrue}
use Rattle.tg_law_instances.proofs.Small.{clash, never, of_some}
use Rattle.tg_law_verdicts.proofs.Members.{has_contained, contained_has, and_both, both_and, not_true, found}
use Rattle.tg_law_verdicts.proofs.Tests.{number_same, same_oid, lt_of, le_of}
use Rattle.tg_law_examples.proofs.SevenKinds.{kinds}
use Rattle.tg_law_instances.proofs.Same.{nums_exact}
use Rattle.tg_law_instances.proofs.Readings.{either_so}
use Rattle.tg_law_instances.proofs.Refuted.{not_both, some_off, heard_now_is}
use Rattle.tg_law_instances.proofs.Tests.{W, E, nums_eq, heard_now, is_tail}
use Rattle.tg_law_instances.proofs.StepTests.{replies, says, is_refused, own_entry, is_idle, at_once, stream_exact, line_ev, all_of, asked_at, some_is}
use Rattle.tg_law_instances.proofs.Steps.{has_reply, says_it, it_says}
use Rattle.tg_law_instances.proofs.CauseSound.{at_once_of, refused_so}
use Rattle.tg_law_instances.proofs.PlaySound.{idle_none}

-- Steps of a run: of some step from a world, changed, what is said holds.

unfoldable pub OfStep : (W → E → Type 0) → List E → W → Type 0
OfStep P [] w = ⊥
OfStep P (e ∷ es) w = P w e ⊎ OfStep P es (happens kinds w e)

unfoldable pub OfRun : (W → E → Type 0) → List (Line kinds) → W → Type 0
OfRun P [] w = ⊥
OfRun P (x ∷ xs) w = OfStep P (line_ev (next_event kinds w) x) (next_event kinds w) ⊎ OfRun P xs (all_of (line_ev (next_event kinds w) x) (next_event kinds w))

abbrev pub some_step : (W → E → Bool) → List E → W → Bool
some_step f [] w = false
some_step f (e ∷ es) w = f w e || some_step f es (happens kinds w e)

unfoldable pub some_of_run : (W → E → Bool) → List (Line kinds) → W → Bool
some_of_run f [] w = false
some_of_run f (x ∷ xs) w = let v = next_event kinds w in let es = line_ev v x in some_step f es v || some_of_run f xs (all_of es v)

step_found : (f : W → E → Bool) (P : W → E → Type 0) → ((w : W) (e : E) → f w e ≡ true → P w e) → (es : List E) (w : W) → some_step f es w ≡ true → OfStep P es w
unfolding OfStep
step_found f P is [] w h = absurd cc
step_found f P is (e ∷ es) w h =
    elim (either_so (f w e) (some_step f es (happens kinds w e)) h) [
      | inl a ↦ inl (is w e a)
      | inr b ↦ inr (step_found f P is es (happens kinds w e) b)
    ]

pub of_run_found : (f : W → E → Bool) (P : W → E → Type 0) → ((w : W) (e : E) → f w e ≡ true → P w e) → (xs : List (Line kinds)) (w : W) → some_of_run f xs w ≡ true → OfRun P xs w
unfolding some_of_run OfRun
of_run_found f P is [] w h = absurd cc
of_run_found f P is (x ∷ xs) w h =
    let v = next_event kinds w in
    let es = line_ev v x in
    elim (either_so (some_step f es v) (some_of_run f xs (all_of es v)) h) [
      | inl a ↦ inl (step_found f P is es v a)
      | inr b ↦ inr (of_run_found f P is xs (all_of es v) b)
    ]

-- A world whose notes say that all commands began later: no message is one of theirs.

abbrev later_note : CommandStart → CommandStart
later_note n = record n { next = n.next + 1000000 }

abbrev pub noted_late : W → W
noted_late w = record w { noted = map later_note w.noted }

abbrev no_tail : W → Told kinds → Bool
no_tail v t = not (heard_now v t (is_tail (λ x. true)))

-- Unsure.

record AnUnsure (what : WhatOf kinds) : Type 0 where
  at : ℕ
  pos : ℕ
  is : what ≡ told.Unsure at pos

abbrev is_unsure : WhatOf kinds → Bool
is_unsure (told.Unsure at p) = true
is_unsure what = false

unsure_so : (what : WhatOf kinds) → is_unsure what ≡ true → AnUnsure what
unsure_so (told.Unsure at p) h = record { at = at; pos = p; is = refl }
unsure_so what h = absurd cc

abbrev pub unsure_off : W → E → Bool
unsure_off w e = list_any (λ (t : Told kinds). is_unsure t.mark.what && no_tail (happens kinds w e) t) (replies w (happens kinds w e))

pub unsure_refuted : (w : W) (e : E) → unsure_off w e ≡ true → UnsureTrue kinds w e → ⊥
unsure_refuted w e h claim =
    let v = happens kinds w e in
    let x = found (λ (t : Told kinds). is_unsure t.mark.what && no_tail v t) (replies w v) h in
    let b = and_both (is_unsure x.it.mark.what) (no_tail v x.it) x.passes in
    let u = unsure_so x.it.mark.what b.0 in
    let c = claim x.it u.at u.pos (has_reply w e x.it x.has) u.is in
    let s = c.unknown.below in
    not_both (heard_now v x.it (is_tail (λ y. true))) b.1 (heard_now_is v x.it (is_tail (λ y. true)) (msg.Tail s.tail s.links) s.synced refl)

-- Answers that tell of no record.

record ANone (what : WhatOf kinds) : Type 0 where
  pos : ℕ
  is : what ≡ told.Fate pos None

abbrev is_no_fate : WhatOf kinds → Bool
is_no_fate (told.Fate p None) = true
is_no_fate what = false

none_so : (what : WhatOf kinds) → is_no_fate what ≡ true → ANone what
none_so (told.Fate p None) h = record { pos = p; is = refl }
none_so what h = absurd cc

abbrev pub none_off : W → E → Bool
none_off w e = list_any (λ (t : Told kinds). is_no_fate t.mark.what && no_tail (happens kinds w e) t) (replies w (happens kinds w e))

pub nones_refuted : (w : W) (e : E) → none_off w e ≡ true → NonesTrue kinds w e → ⊥
nones_refuted w e h claim =
    let v = happens kinds w e in
    let x = found (λ (t : Told kinds). is_no_fate t.mark.what && no_tail v t) (replies w v) h in
    let b = and_both (is_no_fate x.it.mark.what) (no_tail v x.it) x.passes in
    let n = none_so x.it.mark.what b.0 in
    let c = subst (λ (what : WhatOf kinds). SaysNone kinds what (λ p. IsNone kinds v x.it p)) n.is (claim x.it (has_reply w e x.it x.has)) in
    not_both (heard_now v x.it (is_tail (λ y. true))) b.1 (heard_now_is v x.it (is_tail (λ y. true)) (msg.Tail c.tail c.links) c.synced refl)

-- Rescues that stay undecided.

record AStuck (x : Option (CommandOf kinds)) (what : WhatOf kinds) : Type 0 where
  pos : ℕ
  command : x ≡ Some (cmd.Rescue pos)
  at : ℕ
  oid : Oid
  is : what ≡ told.Refused (cause.Undecided at oid)

abbrev is_stuck : Option (CommandOf kinds) → WhatOf kinds → Bool
is_stuck (Some (cmd.Rescue p)) (told.Refused (cause.Undecided q o)) = true
is_stuck x what = false

stuck_so : (x : Option (CommandOf kinds)) (what : WhatOf kinds) → is_stuck x what ≡ true → AStuck x what
stuck_so (Some (cmd.Rescue p)) (told.Refused (cause.Undecided q o)) h = record { pos = p; command = refl; at = q; oid = o; is = refl }
stuck_so x what h = absurd cc

abbrev stuck_here : W → E → Told kinds → Bool
stuck_here w e t = is_stuck (command_in kinds (client kinds w t.mark.client).work) t.mark.what && no_tail (happens kinds w e) t

abbrev pub stuck_off : W → E → Bool
stuck_off w e = list_any (stuck_here w e) (replies w (happens kinds w e))

pub stuck_refuted : (w : W) (e : E) → stuck_off w e ≡ true → StuckTrue kinds w e → ⊥
stuck_refuted w e h claim =
    let v = happens kinds w e in
    let x = found (stuck_here w e) (replies w v) h in
    let b = and_both (is_stuck (command_in kinds (client kinds w x.it.mark.client).work) x.it.mark.what) (no_tail v x.it) x.passes in
    let s = stuck_so (command_in kinds (client kinds w x.it.mark.client).work) x.it.mark.what b.0 in
    let r = has_reply w e x.it x.has in
    let c = claim r.replies x.it s.pos s.at s.oid r.are r.here s.command s.is in
    not_both (heard_now v x.it (is_tail (λ y. true))) b.1 (heard_now_is v x.it (is_tail (λ y. true)) (msg.Tail c.tail c.links) c.synced refl)

-- Syncs: the world after the step is one of the later ones.

no_moves : (w : W) → nat_le w.steps most_steps ≡ true → Later kinds w w
unfolding run
no_moves w h = ([], record { lawful = λ x c. absurd (none x c); is = refl; few = le_of w.steps most_steps h })
  where
    none : (x : Move kinds) → Contains [] x → ⊥
    none x c = has_contained [] x c

abbrev ends_off : W → Option (Walked kinds) → Bool
ends_off v None = false
ends_off v (Some x) = not (list_all (stream_exact v x) x.work.oids)

abbrev pub exact_off : W → E → Bool
exact_off w e = nat_le (happens kinds w e).steps most_steps && list_any (λ k. ends_off (happens kinds w e) (walked_in kinds w e k)) (numbers (length w.clients) 0)

ends_so : (v : W) (o : Option (Walked kinds)) → ends_off v o ≡ true → ((x : Walked kinds) (p : Oid) → o ≡ Some x → Contains x.work.oids p → from_to kinds (walked_from kinds x p) x.work.tail (positions_found kinds x p) ≡ members (log kinds v) p (walked_from kinds x p) x.work.tail) → ⊥
ends_so v None h claim = absurd cc
ends_so v (Some x) h claim =
    let s = some_off (stream_exact v x) x.work.oids (not_true (list_all (stream_exact v x) x.work.oids) h) in
    let a = from_to kinds (walked_from kinds x s.it) x.work.tail (positions_found kinds x s.it) in
    let b = members (log kinds v) s.it (walked_from kinds x s.it) x.work.tail in
    clash (nums_eq a b) ((nums_exact a b).1 (claim x s.it refl (contained_has x.work.oids s.it s.has))) s.off

pub exact_refuted : (w : W) (e : E) → exact_off w e ≡ true → SyncsExact kinds w e → ⊥
exact_refuted w e h claim =
    let v = happens kinds w e in
    let ks = numbers (length w.clients) 0 in
    let b = and_both (nat_le v.steps most_steps) (list_any (λ k. ends_off v (walked_in kinds w e k)) ks) h in
    let k = found (λ (n : ℕ). ends_off v (walked_in kinds w e n)) ks b.1 in
    ends_so v (walked_in kinds w e k.it) k.passes (λ x p is c. claim v (no_moves v b.0) k.it x p is c)

-- Pages that weren't given up.

abbrev is_others : ℕ → Option Cell → Bool
is_others k (Some (Data d)) = not (own_entry k (entry_of d))
is_others k c = false

abbrev pub keeps_page : W → ℕ → ℕ → Bool
keeps_page v k p = is_idle (client kinds v k).work && nat_lt p (upto kinds (client kinds v k)) && is_others k (cell_at (client kinds v k).cells p)

own_is : (k : ℕ) (page : List ℕ) → IsOwn kinds k page → own_entry k (entry_of page) ≡ true
own_is k page o =
    let e = o.0 in
    ap (own_entry k) o.1 ∙ both_and (is_commit e) (e.head.client == k) o.2 (number_same e.head.client k o.3)

page_off : (k p : ℕ) (c : Client kinds) (o : Option Cell) → c.work ≡ None → cell_at c.cells p ≡ o → is_others k o ≡ true → ((page : List ℕ) → known kinds c p ≡ Some (Data page) → IsOwn kinds k page) → ⊥
page_off k p c None idle is h claim = absurd cc
page_off k p c (Some Junk) idle is h claim = absurd cc
page_off k p c (Some (Data d)) idle is h claim =
    not_both (own_entry k (entry_of d)) h (own_is k d (claim d (subst (λ (x : Option (Work kinds)). cell_at (work_cells kinds x c.cells) p ≡ Some (Data d)) (sym idle) is)))

abbrev pub keeps_some : W → ℕ → Bool
keeps_some v k = list_any (keeps_page v k) (numbers 16 0)

pub plays_refuted : (w : W) (e : E) (k : ℕ) → keeps_some (happens kinds w e) k ≡ true → PlaysOn kinds w e → ⊥
plays_refuted w e k h claim =
    let c = client kinds (happens kinds w e) k in
    let p = found (keeps_page (happens kinds w e) k) (numbers 16 0) h in
    let b = and_both (is_idle c.work && nat_lt p.it (upto kinds c)) (is_others k (cell_at c.cells p.it)) p.passes in
    let a = and_both (is_idle c.work) (nat_lt p.it (upto kinds c)) b.0 in
    let idle = idle_none c.work a.0 in
    page_off k p.it c (cell_at c.cells p.it) idle refl b.1 (λ page is. claim.gives_up k p.it page idle (lt_of p.it (upto kinds c) a.1) is)

-- A command with a cause that is accepted, and one without that is refused.

abbrev pub accepts_it : W → ℕ → CommandOf kinds → Refusal → Bool
accepts_it w k x why = runs kinds w (client_id k) && at_once w k x why && not (says w (happens kinds w (Commands k x)) k is_refused)

pub refuse_refuted : (w : W) (k : ℕ) (x : CommandOf kinds) (why : Refusal) → accepts_it w k x why ≡ true → CausesRefuse kinds w (Commands k x) → ⊥
refuse_refuted w k x why h claim =
    let e = Commands k x in
    let b = and_both (runs kinds w (client_id k) && at_once w k x why) (not (says w (happens kinds w e) k is_refused)) h in
    let a = and_both (runs kinds w (client_id k)) (at_once w k x why) b.0 in
    let s = claim k x why refl a.0 (at_once_of w k x why a.1) in
    not_both (says w (happens kinds w e) k is_refused) b.1 (it_says w e k is_refused s.told s.says s.client (ap is_refused s.holds.1))

-- a registered object is refused as one that isn't

abbrev is_unregistered : Oid → WhatOf kinds → Bool
is_unregistered o (told.Refused (cause.NotRegistered p)) = oid_eq p o
is_unregistered o what = false

unregistered_so : (o : Oid) (what : WhatOf kinds) → is_unregistered o what ≡ true → what ≡ told.Refused (cause.NotRegistered o)
unregistered_so o (told.Refused (cause.NotRegistered p)) h = ap (λ (q : Oid). told.Refused (cause.NotRegistered q)) (same_oid p o h)
unregistered_so o what h = absurd cc

abbrev registered_at : W → Oid → Client kinds → Bool
registered_at w o c = kinds.registered (state_at kinds w.cluster.objects (history kinds w) c.played directory) o

abbrev pub refuses_it : W → ℕ → Oid → Bool
refuses_it w k o = says w (happens kinds w (Commands k (cmd.Host o))) k (is_unregistered o) && registered_at w o (client kinds w k)

given_here : (k j : ℕ) (x : CommandOf kinds) (rest : Option (CommandOf kinds)) → j ≡ k → or_else (if k == j then Some x else None) rest ≡ Some x
given_here k j x rest e = ap (λ b. or_else (if b then Some x else None) rest) (number_same k j (sym e))

pub refusals_refuted : (w : W) (k : ℕ) (o : Oid) → refuses_it w k o ≡ true → RefusalsTrue kinds w (Commands k (cmd.Host o)) → ⊥
refusals_refuted w k o h claim =
    let x = cmd.Host o in
    let e = Commands k x in
    let v = happens kinds w e in
    let why = cause.NotRegistered o in
    let b = and_both (says w v k (is_unregistered o)) (registered_at w o (client kinds w k)) h in
    let s = says_it w e k (is_unregistered o) b.0 in
    let j = s.told.mark.client in
    let c = claim s.told why s.reply (unregistered_so o s.told.mark.what s.passes) in
    let is = of_some x c.command (sym (given_here k j x (command_in kinds (client kinds w j).work) s.client) ∙ c.answered) in
    elim (c.because) [
      | inl a ↦ clash (registered_at w o (client kinds w k)) b.1 (ap (λ (n : ℕ). registered_at w o (client kinds w n)) (sym s.client) ∙ a.1)
      | inr l ↦ never why (ap (λ (y : CommandOf kinds). layout_cause kinds (client kinds v j).stand y) is ∙ l)
    ]

-- A refusal after which the directory was played further.

abbrev refused_on : W → E → Told kinds → Bool
refused_on w e t = is_refused t.mark.what && not ((client kinds (happens kinds w e) t.mark.client).played == (client kinds w t.mark.client).played)

abbrev pub keeps_off : W → E → Bool
keeps_off w e = list_any (refused_on w e) (replies w (happens kinds w e))

pub keeps_refuted : (w : W) (e : E) → keeps_off w e ≡ true → RefusalsKeep kinds w e → ⊥
keeps_refuted w e h claim =
    let v = happens kinds w e in
    let x = found (refused_on w e) (replies w v) h in
    let k = x.it.mark.client in
    let b = and_both (is_refused x.it.mark.what) (not ((client kinds v k).played == (client kinds w k).played)) x.passes in
    let why = refused_so x.it.mark.what b.0 in
    let kept = (claim.later x.it why.0 (has_reply w e x.it x.has) why.1).0 in
    not_both ((client kinds v k).played == (client kinds w k).played) b.1 (number_same (client kinds v k).played (client kinds w k).played kept.played)

-- An answer after which the view doesn't stand at its tail.

record AskedOff (what : WhatOf kinds) (n : ℕ) : Type 0 where
  oid : Oid
  ask : kinds.ask
  at : ℕ
  answer : kinds.answer
  is : what ≡ told.Asked oid ask at answer
  off : not (at == n) ≡ true

asked_so : (what : WhatOf kinds) (n : ℕ) → not (some_is (asked_at what) n) ≡ true → AskedOff what n
asked_so (told.Asked o q t a) n h = record { oid = o; ask = q; at = t; answer = a; is = refl; off = h }
asked_so what n h = absurd cc

abbrev stands_elsewhere : W → Told kinds → Bool
stands_elsewhere v t = not (some_is (asked_at t.mark.what) (upto kinds (client kinds v t.mark.client)))

abbrev pub stands_off : W → E → Bool
stands_off w e = list_any (stands_elsewhere (happens kinds w e)) (replies w (happens kinds w e))

pub stands_refuted : (w : W) (e : E) → stands_off w e ≡ true → PlaysOn kinds w e → ⊥
stands_refuted w e h claim =
    let v = happens kinds w e in
    let x = found (stands_elsewhere v) (replies w v) h in
    let k = x.it.mark.client in
    let a = asked_so x.it.mark.what (upto kinds (client kinds v k)) x.passes in
    let n = claim.stands k a.oid a.ask a.at a.answer (record { told = x.it; says = has_reply w e x.it x.has; client = refl; holds = a.is }) in
    not_both (a.at == upto kinds (client kinds v k)) a.off (number_same a.at (upto kinds (client kinds v k)) (sym n))
