-- A settling before the client's own layout is adopted, whatever joins.
use Rattle.std.proofs.Common.{◌≡◌, ◌≢◌, ◌⊎◌, ℕ, ◌+◌, ◌*◌, ◌<◌, ◌≤◌, ◌^◌, List, [], ◌∷◌, length, true, refl, ap, ◌∙◌, sym, subst, inl, inr, arith, Some, None, Option}
use Rattle.std.specs.Prelude.{Contains, ⊤}
use Rattle.tg_any.specs.AllKinds.{all_kinds}
use Rattle.tg_base.specs.Layouts.{Layout, IsLayout}
use Rattle.tg_base.specs.Changes.{Changed}
use Rattle.tg_base.specs.Clusters.{Header}
use Rattle.tg_base.specs.declared.change.Join.{Join}
use Rattle.tg_base.specs.declared.msg.Msg.{Msg}
use Rattle.tg_base.specs.declared.msg.Msg.TheVariants as msg
use Rattle.tg_model.specs.Kinds.{CommandOf}
use Rattle.tg_protocol.specs.Words.{unit_id}
use Rattle.tg_protocol.specs.Layouts.{next_units}
use Rattle.tg_protocol.specs.Requests.{out}
use Rattle.tg_protocol.specs.Reconfiguring.{ReconfWork, SealingSpare, LookingSpare, Sealing, LookingAgain, Agreeing, Telling, Starting, Reconf, next_epoch, join_asks, reconf_work_asks}
use Rattle.tg_protocol.specs.Clients.{Work, Hand}
use Rattle.tg_protocol.specs.ClientSteps.{task_in}
use Rattle.tg_protocol.specs.Worlds.{World, unit, client, runs, rounds, settle}
use Rattle.tg_protocol.specs.Runs.{Moves, Reaches, Always}
use Rattle.tg_protocol.specs.Finishing.{WaitsAlone}
use Rattle.tg_law_layouts.proofs.Layouts.Deciding.{layouts_are_known, layouts_are_sound}
use Rattle.tg_law_layouts.proofs.Layouts.Pax.{reconf_of, task_reconf}
use Rattle.tg_law_layouts.proofs.Moves.Lists.{contained}
use Rattle.tg_law_layouts.proofs.Moves.Members.{Has}
use Rattle.tg_law_finish.proofs.Finish.Nets.{net, client_of}
use Rattle.tg_law_finish.proofs.Finish.Settles.{Facts}
use Rattle.tg_law_reconfs.proofs.Laps.{AtNew}
use Rattle.tg_law_reconfs.specs.Reconfs.{InVotes, VotesEnd}
use Rattle.tg_law_reconfs.specs.Changing.{IsBefore, JoinsSince, WaitsForUnits, WaitsToChange, JoinsFinish}
use Rattle.tg_law_reconfs.proofs.Waits.{asked_long}
use Rattle.tg_law_reconfs.proofs.Phases.{look_at, spares, units_left}
use Rattle.tg_law_reconfs.proofs.Joining.{InHand, AsksUnits, changes_in_hand, is_next, lacks_near}
use Rattle.tg_law_reconfs.proofs.Voted.{ToTickAll, Soon, settle_rests, units_tick, to_tick, most_told, past, near, some, Agrees, AheadOf, SpareOf, NextRuns, units_end, votes_end, first_of, never_high, scans_near}

some_of : (us : List ℕ) → us ≢ [] → (u : ℕ) × Has us u
some_of [] filled = absurd (filled refl)
some_of (u ∷ us) filled = (u, inl refl)

join_long : (o : Option Join) (n : ℕ) (g : Join → Msg) → length (join_asks o (λ j. out (unit_id j.unit) n (g j) ∷ [])) ≤ 1
join_long None n g = omega arith
join_long (Some j) n g = omega arith

spares_few : (o : Option Join) → spares o ≤ 1
spares_few None = omega arith
spares_few (Some j) = omega arith

module _ (h : Header) (ms : Moves all_kinds) (w : World all_kinds) (reach : Reaches all_kinds h ms w) (k : ℕ) (x : CommandOf all_kinds) (c : Changed) (a : WaitsAlone all_kinds w k x) (f : WaitsToChange all_kinds w k c) where
  abbrev r : Reconf
  r = f.reconf

  abbrev pub agrees : Agrees all_kinds w k
  agrees = record { work = f.work; waits = f.waits; reconf = f.reconf; hand = f.hand; layouts = f.layouts; none_above = f.none_above }

  abbrev Ahead' : ReconfWork → Type 0
  Ahead' y = AheadOf all_kinds h ms w reach k x a agrees y

  abbrev Spare' : ℕ → Type 0
  Spare' e = SpareOf all_kinds h ms w reach k x a agrees e

  abbrev NextRuns' : Type 0
  NextRuns' = NextRuns all_kinds h ms w reach k x a agrees

  abbrev most_so : ℕ
  most_so = 2 * w.cluster.units + 64 * w.cluster.layouts + 22

  -- The layout at which the client stands, and its change.

  rules : IsLayout r.stand
  rules = subst (λ (p : Layout). IsLayout p) (sym f.stands) (layouts_are_sound all_kinds h ms w reach _ _ ((layouts_are_known all_kinds h ms w reach).clients k)).rules

  start_near : r.stand.start < 2 ^ 62
  start_near = subst (λ (p : Layout). p.start < 2 ^ 62) (sym f.stands) (layouts_are_sound all_kinds h ms w reach _ _ ((layouts_are_known all_kinds h ms w reach).clients k)).near

  in_hand : AsksUnits r.work → InHand all_kinds w r
  in_hand asks = changes_in_hand all_kinds h ms w reach k r (ap (λ (o : Option (Work all_kinds)). reconf_of all_kinds o) f.waits ∙ ap (λ (d : Hand all_kinds). task_reconf all_kinds (task_in all_kinds d)) f.hand) asks

  units_are : next_units r.stand r.change ≡ next_units r.stand c
  units_are = ap (λ (d : Changed). next_units r.stand d) f.change

  units_few : length (next_units r.stand r.change) ≤ w.cluster.units
  units_few = let few = f.few in let same = ap (λ (us : List ℕ). length us) units_are in omega (arith, few, same)

  unit_runs : (u : ℕ) → Contains (next_units r.stand r.change) u → runs all_kinds w (unit_id u) ≡ true
  unit_runs u i = f.units u (subst (λ (us : List ℕ). Contains us u) units_are i)

  -- the unit that joins
  spare_of : InHand all_kinds w r → (j : Join) → r.change.join ≡ Some j → (e : ℕ) → e ≤ (unit all_kinds w j.unit).epoch → Spare' e
  spare_of i j is e since = record {
    join = j;
    is = is;
    runs = f.spare j (ap (λ (d : Changed). d.join) (sym f.change) ∙ is);
    close = lacks_near r.change j is r.stand rules i.allowed e start_near;
    since = since;
  }

  -- the next layout's units
  next_run : InHand all_kinds w r → NextRuns'
  next_run i = record {
    some = some_of (next_units r.stand r.change) (subst (λ (us : List ℕ). us ≢ []) (sym units_are) f.some);
    run = λ u has. unit_runs u (contained (next_units r.stand r.change) u has);
    joins = λ j is. is_next r.change j is r.stand rules i.allowed;
  }

  joins_by : (o : Option Join) (e : ℕ) → r.change.join ≡ o → JoinsSince all_kinds w o e → InHand all_kinds w r → Spare' e
  joins_by None e is since i = absurd since
  joins_by (Some j) e is since i = spare_of i j is e since

  next : r.stand.epoch + 1 ≡ (client all_kinds w k).stand.epoch + 1
  next = ap (λ (p : Layout). p.epoch + 1) f.stands

  ahead_of : (y : ReconfWork) → r.work ≡ y → AsksUnits y → WaitsForUnits all_kinds w r y → InHand all_kinds w r → Ahead' y
  ahead_of (SealingSpare n) at asks d i = (joins_by r.change.join 0 refl d i, next_run i)
  ahead_of (LookingSpare n) at asks d i = (joins_by r.change.join r.stand.epoch refl d i, next_run i)
  ahead_of (Sealing ws acks) at asks d i = record {
    some = first_of ws d.0;
    run = λ u j has. unit_runs u (d.2 (u, j) (contained ws (u, j) has));
    joins = λ j is. ((spare_of i j is 0 (omega arith), lacks_near r.change j is r.stand rules i.allowed ((client all_kinds w k).stand.epoch + 1) start_near), by j (i.sealed ws acks at j.unit (is_next r.change j is r.stand rules i.allowed)));
  }
    where
      by : (j : Join) → ((i : ℕ) × Has ws (j.unit, i)) ⊎ (next_epoch r ≤ (unit all_kinds w j.unit).epoch) → ((i : ℕ) × Has ws (j.unit, i)) ⊎ ((client all_kinds w k).stand.epoch + 1 ≤ (unit all_kinds w j.unit).epoch)
      by j (inl y) = inl y
      by j (inr le) = let e = next in inr (omega (arith, e, le))
  ahead_of (LookingAgain n acks) at asks d i = joins_by r.change.join ((client all_kinds w k).stand.epoch + 1) refl (subst (λ (e : ℕ). JoinsSince all_kinds w r.change.join e) next d) i
  ahead_of y at asks d i = absurd asks

  -- Its requests are few.

  asks_few : (y : ReconfWork) → AsksUnits y → WaitsForUnits all_kinds w r y → length (reconf_work_asks r y) + units_left r y ≤ w.cluster.units + 3
  unfolding reconf_work_asks
  asks_few (SealingSpare n) asks d = let one = join_long r.change.join n (λ j. msg.Seal r.stand.epoch) in let few = units_few in omega (arith, one, few)
  asks_few (LookingSpare n) asks d = let one = join_long r.change.join n (λ j. look_at r.stand j r.stand.epoch) in let few = units_few in omega (arith, one, few)
  asks_few (Sealing ws acks) asks d = let long = asked_long unit_id (msg.Seal (next_epoch r)) ws in let few = d.1 in let one = spares_few r.change.join in omega (arith, long, few, one)
  asks_few (LookingAgain n acks) asks d = let one = join_long r.change.join n (λ j. look_at r.stand j (next_epoch r)) in omega (arith, one)
  asks_few y asks d = absurd asks

  -- The settling.

  from_units : (y : ReconfWork) → r.work ≡ y → AsksUnits y → VotesEnd all_kinds w (settle all_kinds w).world k most_so
  from_units y at asks =
      let asks' = subst AsksUnits (sym at) asks in
      let few = asks_few r.work asks' f.waiting in
      units_end all_kinds h ms w reach k x a agrees most_so (omega (arith, few)) (ahead_of r.work refl asks' f.waiting (in_hand asks')) (never_high h ms w reach) (scans_near h ms w reach)

  -- what is known right before the first ticks
  ticks_by : (y : ReconfWork) → r.work ≡ y → (n : ℕ) × ToTickAll all_kinds h ms w reach k x a agrees n
  ticks_by y at = by y at (λ asks. units asks) (λ votes. (most_told all_kinds h ms w reach k x a agrees, inl (to_tick all_kinds h ms w reach k x a agrees votes)))
    where
      units : AsksUnits r.work → (n : ℕ) × ToTickAll all_kinds h ms w reach k x a agrees n
      units asks =
          let few = asks_few r.work asks f.waiting in
          (most_so, units_tick all_kinds h ms w reach k x a agrees most_so (omega (arith, few)) (ahead_of r.work refl asks f.waiting (in_hand asks)) (never_high h ms w reach) (scans_near h ms w reach))

      by : (y : ReconfWork) → r.work ≡ y → (AsksUnits r.work → (n : ℕ) × ToTickAll all_kinds h ms w reach k x a agrees n) → (InVotes all_kinds r.work → (n : ℕ) × ToTickAll all_kinds h ms w reach k x a agrees n) → (n : ℕ) × ToTickAll all_kinds h ms w reach k x a agrees n
      by (SealingSpare n) at u v = u (subst AsksUnits (sym at) tt)
      by (LookingSpare n) at u v = u (subst AsksUnits (sym at) tt)
      by (Sealing ws acks) at u v = u (subst AsksUnits (sym at) tt)
      by (LookingAgain n acks) at u v = u (subst AsksUnits (sym at) tt)
      by (Agreeing d) at u v = v (subst (λ (y : ReconfWork). InVotes all_kinds y) (sym at) tt)
      by (Telling ws n q) at u v = v (subst (λ (y : ReconfWork). InVotes all_kinds y) (sym at) tt)
      by (Starting n) at u v = absurd (subst (λ (y : ReconfWork). IsBefore all_kinds y) at f.before)

  pub rests_after : (Fact : World all_kinds → Type 0) → Facts all_kinds Fact (λ s y. ⊤) → Fact w
      → ((u : World all_kinds) → Fact u → Soon all_kinds h ms w reach k x a agrees u → ((client_of all_kinds w.cluster (net all_kinds u) k).work ≡ None) ⊎ AtNew all_kinds w.cluster w.stopped k ((client all_kinds w k).stand.epoch + 1) w.cluster.layouts (past all_kinds h ms w reach k x a agrees) (near all_kinds h ms w reach k x a agrees) (some all_kinds h ms w reach k x a agrees) (client_of all_kinds w.cluster (net all_kinds u) k)
      → (rounds all_kinds 2 u).stopped ≡ None → (client all_kinds (rounds all_kinds 2 u).world k).work ≡ None)
      → (client all_kinds (settle all_kinds w).world k).work ≡ None
  rests_after Fact facts fact ends = let t = ticks_by r.work refl in settle_rests all_kinds h ms w reach k x a agrees Fact facts fact ends t.0 t.1

  from_votes : InVotes all_kinds r.work → VotesEnd all_kinds w (settle all_kinds w).world k most_so
  from_votes votes = let e = votes_end all_kinds h ms w reach k x a agrees votes in let few = e.few in record { ends = e.ends; few = omega (arith, few) }

  joins_end : (y : ReconfWork) → r.work ≡ y → VotesEnd all_kinds w (settle all_kinds w).world k most_so
  joins_end (SealingSpare n) at = from_units (SealingSpare n) at tt
  joins_end (LookingSpare n) at = from_units (LookingSpare n) at tt
  joins_end (Sealing ws acks) at = from_units (Sealing ws acks) at tt
  joins_end (LookingAgain n acks) at = from_units (LookingAgain n acks) at tt
  joins_end (Agreeing v) at = from_votes (subst (λ (y : ReconfWork). InVotes all_kinds y) (sym at) tt)
  joins_end (Telling ws n q) at = from_votes (subst (λ (y : ReconfWork). InVotes all_kinds y) (sym at) tt)
  joins_end (Starting n) at = absurd (subst (λ (y : ReconfWork). IsBefore all_kinds y) at f.before)

pub joins_finish : Always all_kinds (JoinsFinish all_kinds)
joins_finish h ms w reach k x c a f = joins_end h ms w reach k x c a f f.reconf.work refl
