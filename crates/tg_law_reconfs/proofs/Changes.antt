-- In each run a reconfiguration that is ready stands somewhere: at its change's epoch before it has adopted a layout, and at the next
-- one where it waits for the sequencer of its own.
use Rattle.std.proofs.Common.{◌≡◌, ◌≢◌, ◌⊎◌, ℕ, ◌+◌, ◌<◌, ◌≤◌, List, [], ◌∷◌, ◌++◌, length, true, refl, sym, ap, ◌∙◌, subst, inl, inr, arith, append-nil, Some, None, Option}
use Rattle.std.specs.Prelude.{Contains}
use Rattle.std.proofs.lemmas.List.{length-map, length-replicate}
use Rattle.tg_any.specs.AllKinds.{all_kinds}
use Rattle.tg_base.specs.Layouts.{Layout, IsLayout}
use Rattle.tg_base.specs.Changes.{Changed}
use Rattle.tg_base.specs.Clusters.{Header}
use Rattle.tg_base.specs.declared.change.Join.{Join}
use Rattle.tg_base.specs.declared.packet.Packet.{Packet}
use Rattle.tg_kind.specs.Meaning.{Meaning}
use Rattle.tg_model.specs.Kinds.{CommandOf, EventOf}
use Rattle.tg_model.specs.declared.command.Command.TheVariants as cmd
use Rattle.tg_protocol.specs.Words.{unit_id, numbers}
use Rattle.tg_protocol.specs.Layouts.{first_layout, units_of, next_units, change_fault}
use Rattle.tg_protocol.specs.Reconfiguring.{ReconfWork, SealingSpare, LookingSpare, Sealing, LookingAgain, Agreeing, Telling, Starting, Reconf, next_epoch}
use Rattle.tg_protocol.specs.Clients.{Task, Syncing, Walking, Appending, Trimming, Copying', Reconfiguring, Hand, Doing, Learning, Work, Client, new_client}
use Rattle.tg_protocol.specs.ClientSteps.{ClientTurn, task_in}
use Rattle.tg_protocol.specs.Worlds.{CommandStart, World, start, unit, seqr, client, noted_of, runs, happens}
use Rattle.tg_protocol.specs.Runs.{Move, Moves, Next, Takes, run, Reaches, Always}
use Rattle.tg_protocol.specs.Chosen.{IsDecided}
use Rattle.tg_protocol.specs.Finishing.{MostRun, NoneAbove, WaitsAlone, IsReadyToChange}
use Rattle.tg_law_layouts.specs.Moves.After.{after}
use Rattle.tg_law_layouts.specs.Moves.Configs.{Config, config}
use Rattle.tg_law_layouts.proofs.Layouts.Pax.{task_reconf, reconf_of, HandOk}
use Rattle.tg_law_layouts.proofs.Layouts.Decisions.{Pax}
use Rattle.tg_law_layouts.proofs.Layouts.Decided.{Lay, start_lay}
use Rattle.tg_law_layouts.proofs.Layouts.Layouts.{start_pax, has_header, stays_sent}
use Rattle.tg_law_layouts.proofs.Layouts.Standing.{IsKnown}
use Rattle.tg_law_layouts.proofs.Layouts.Successions.{WorkGood, ReconfGood}
use Rattle.tg_law_layouts.proofs.Layouts.Succeeding.{Any, low_keeps, succ_holds}
use Rattle.tg_law_layouts.proofs.Layouts.Deciding.{decided_for, one_layout, layouts_are_known, layouts_are_sound}
use Rattle.tg_law_layouts.proofs.Moves.Always.{lawful_give}
use Rattle.tg_law_layouts.proofs.Moves.Lists.{at_map, at_replicate, contained}
use Rattle.tg_law_layouts.proofs.Moves.Members.{Has, has_contained}
use Rattle.tg_law_layouts.proofs.Moves.Moves.{ClientInput, Commanded, Hears', Ticks'}
use Rattle.tg_law_layouts.proofs.Moves.Reconfs.{numbers_long}
use Rattle.tg_law_layouts.proofs.Moves.Scripts.{run_both}
use Rattle.tg_law_layouts.proofs.Requests.Starts.{All, start_all, known}
use Rattle.tg_law_layouts.proofs.Requests.Told.{seal_holds}
use Rattle.tg_law_cells.proofs.Entries.Lists.{joined}
use Rattle.tg_law_walks.proofs.Drafts.Written.{then_next, then_takes}
use Rattle.tg_law_walks.proofs.Lists.Reached.{before_reached}
use Rattle.tg_law_claims.proofs.Playing.Acts.{IsCommanded, Noted, Before, Anew, IsEven, Turns, Acts, Others, Acts', acts}
use Rattle.tg_law_finish.specs.Finish.Commands.{plays}
use Rattle.tg_law_finish.proofs.Finish.Fences.{fences_hold}
use Rattle.tg_law_finish.proofs.Finish.Standing.{pax_always, units_are}
use Rattle.tg_law_finish.proofs.Finish.Suiting.{Suits, WorkSuits, purpose_plays, all_suit}
use Rattle.tg_law_reconfs.specs.Reconfs.{WaitsToStart}
use Rattle.tg_law_reconfs.specs.Changing.{IsBefore, JoinsSince, WaitsForUnits, WaitsToChange}
use Rattle.tg_law_reconfs.specs.Changes.{ChangesWork, ChangesStart}
use Rattle.tg_law_reconfs.proofs.Arrivals.{Arrived, OfUnit, OfSeqr, olds_reached}
use Rattle.tg_law_reconfs.proofs.Changing.{ToldFence, ToldOld, epoch_at, Fine, Waiting, ReconfKept, Warned, TaskKept, HandWarned, WorkKept, Suited, hears_kept, commands_kept, ticks_kept}
use Rattle.tg_law_reconfs.proofs.NextUnits.{next_some, next_few, next_joins}
use Rattle.tg_law_reconfs.proofs.Proposals.{IsOf, Comes, WorkMine, ReconfMine, HandMine, mine_hold}

-- Along a run.
module _ (m : Meaning) (h : Header) (zs : Moves m) (r : Reaches m h zs (after m h zs)) where
  abbrev Kept : CommandStart → Client m → Type 0
  Kept s c = WorkKept (after m h zs).packets s.epoch m c.work

  record State (w : World m) : Type 0 where
    even : IsEven m w
    clients : (k : ℕ) → Kept (noted_of m w k) (client m w k)

  -- a step
  module _ (xs : Moves m) (e : EventOf m) (ys : Moves m) (split : zs ≡ xs ++ Takes e ∷ ys) (st : State (after m h xs)) where
    abbrev w : World m
    w = after m h xs

    reached : Reaches m h xs (after m h xs)
    reached = before_reached m h zs r xs (Takes e ∷ ys) split

    sent : (p : Packet) → Has (after m h xs).packets p → Has (after m h zs).packets p
    sent p i = subst (λ (v : World m). Has v.packets p) (sym (ap (λ (ms : Moves m). after m h ms) split ∙ run_both m xs (Takes e ∷ ys) (start m h))) (stays_sent m (Takes e ∷ ys) w p i)

    rules : (k : ℕ) → IsLayout (client m (after m h xs) k).stand
    rules k = (layouts_are_sound m h xs (after m h xs) reached _ _ ((layouts_are_known m h xs (after m h xs) reached).clients k)).rules

    suited : (n k : ℕ) → Suited (after m h zs).packets n m (client m (after m h xs) k)
    suited n k x has =
        let ok = subst (λ (o : Option Reconf). HandOk m (config m w).cluster.layouts k (config m w).packets (client m w k).stand o) has ((pax_always m h xs (after m h xs) reached).clients k) in
        (subst IsLayout (sym ok.stand) (rules k), ok.told)

    module _ (n : ℕ) (s : CommandStart) where
      kept_of : (given : Type 0) → Noted m (after m h xs) n s given → Kept s (client m (after m h xs) n)
      kept_of given (Before is other) = subst (λ (z : CommandStart). Kept z (client m w n)) (sym is) (st.clients n)
      kept_of given (Anew idle is) = subst (λ (o : Option (Work m)). WorkKept (after m h zs).packets s.epoch m o) (sym idle) tt

      -- a command that is taken is noted at the epoch where its client stands
      noted_at : Noted m (after m h xs) n s (Unit {0}) → (client m (after m h xs) n).work ≡ None → (client m (after m h xs) n).stand.epoch ≡ s.epoch
      noted_at (Before is other) free = absurd (other tt free)
      noted_at (Anew idle is) free = sym (ap (λ (z : CommandStart). z.epoch) is)

      turned : (t : ClientTurn m) (i : ClientInput m (config m (after m h xs)) n t) → Noted m (after m h xs) n s (IsCommanded m (after m h xs) n t i) → Kept s t.now
      turned _ (Commanded x) noted = commands_kept (after m h zs).packets s.epoch m (client m w n) (kept_of _ noted) (noted_at noted) (rules n) x
      turned _ (Hears' x comes) noted = hears_kept (after m h zs).packets s.epoch m (client m w n) (kept_of _ noted) (suited s.epoch n) x (sent x comes.sent)
      turned _ Ticks' noted = ticks_kept (after m h zs).packets s.epoch m (client m w n) (kept_of _ noted)

    stepped : (v : World m) → Acts m (after m h xs) e v → State v
    stepped v (Others ps p o t c n even) = record {
      even = even;
      clients = λ k. subst (λ (z : CommandStart). Kept z (client m v k)) (sym (n k)) (subst (λ (z : Client m). Kept (noted_of m w k) z) (sym (c k)) (st.clients k));
    }
    stepped v (Acts' n t s i noted p x turns even) = record { even = even; clients = λ k. by k (turns k) }
      where
        by : (k : ℕ) → Turns m (after m h xs) v n t s k → Kept (noted_of m v k) (client m v k)
        by k (inl g) = subst (λ (z : CommandStart). Kept z (client m v k)) (sym g.2) (subst (λ (z : Client m). Kept s z) (sym g.1) (turned n s t i noted))
        by k (inr g) = subst (λ (z : CommandStart). Kept z (client m v k)) (sym g.1) (subst (λ (z : Client m). Kept (noted_of m w k) z) (sym g.0) (st.clients k))

  moved : (xs : Moves m) (x : Move m) (rest : Moves m) → zs ≡ xs ++ x ∷ rest → State (after m h xs) → State (after m h (xs ++ x ∷ []))
  moved xs Next rest split st = subst State (sym (then_next m h xs)) (record { even = st.even; clients = st.clients })
  moved xs (Takes e) rest split st = subst State (sym (then_takes m h xs e)) (stepped xs e rest split st (happens m (after m h xs) e) (acts m (after m h xs) st.even e))

  state_on : (done xs ys : Moves m) → zs ≡ done ++ (xs ++ ys) → State (after m h done) → State (after m h (done ++ xs))
  state_on done [] ys split st = subst (λ (d : Moves m). State (after m h d)) (sym (append-nil done)) st
  state_on done (x ∷ xs) ys split st = subst (λ (d : Moves m). State (after m h d)) (joined done (x ∷ []) xs)
      (state_on (done ++ x ∷ []) xs ys (split ∙ sym (joined done (x ∷ []) (xs ++ ys))) (moved done x (xs ++ ys) split st))

  new_kept : (j : ℕ) → Kept (record { next = 1; epoch = 1; upto = 0 }) (new_client m h j)
  unfolding new_client
  new_kept j = tt

  start_even : IsEven m (start m h)
  unfolding start
  start_even = length-replicate h.clients _ ∙ sym (length-map (numbers h.clients 0) _ ∙ numbers_long h.clients 0)

  start_kept : (k : ℕ) → Kept (noted_of m (start m h) k) (client m (start m h) k)
  unfolding start
  start_kept k = at_replicate h.clients (record { next = 1; epoch = 1; upto = 0 }) k (record { next = 1; epoch = 1; upto = 0 }) (λ (z : CommandStart). Kept z (client m (start m h) k)) here here
    where
      here : Kept (record { next = 1; epoch = 1; upto = 0 }) (client m (start m h) k)
      here = at_map (new_client m h) (numbers h.clients 0) k (new_client m h k) (λ (c : Client m). Kept (record { next = 1; epoch = 1; upto = 0 }) c) (λ j. new_kept j) (new_kept k)

  at_first : after m h [] ≡ start m h
  unfolding run
  at_first = refl

  -- at its end
  kept_here : (k : ℕ) → Kept (noted_of m (after m h zs) k) (client m (after m h zs) k)
  kept_here = (state_on [] zs [] (sym (append-nil zs)) (subst State (sym at_first) (record { even = start_even; clients = start_kept }))).clients

  -- what it knows of its seals
  goods : (k : ℕ) → ReconfGood m (after m h zs).packets (IsKnown h.layouts (first_layout h) (after m h zs).packets) Any (reconf_of m (client m (after m h zs) k).work)
  goods k =
      (succ_holds m h (after m h zs).packets Any (λ (c : Config m). Unit {0}) (λ (c : Config m). (Pax m c × Lay m c) × All m c) (λ c b. b) (low_keeps m h (after m h zs).packets Any (λ (c : Config m). Unit {0}))
      (λ g. ((start_pax m g, start_lay m g), start_all m g)) (λ (c : Config m). Unit {0}) (λ ys z. tt)
      (λ c b. record { idle = λ x y. tt; unit = λ u p a less x y. tt; layout = λ l p a less x y. tt; seqr = λ n t i less x y. tt; client = λ n t i less x y. tt })
      (λ c z b a s j x acks hand y l. tt) zs (lawful_give m (start m h).cluster zs r.goes.lawful) (record { cluster = has_header m h zs; sent = λ x i. i; ahead = tt })).hands k

-- Where the reconfiguration waits alone, and all is ready for its change.

one_change : (m : Meaning) (a b : Changed) → ◌≡◌ {A = CommandOf m} (cmd.Reconf a) (cmd.Reconf b) → a ≡ b
one_change m a b e = cc

never_plays : (m : Meaning) (c : Changed) → plays m (cmd.Reconf c) ≡ true → ⊥
unfolding plays
never_plays m c e = cc

never_ends : (m : Meaning) (c : Changed) → ◌≡◌ {A = CommandOf m} (cmd.Reconf c) cmd.Trim → ⊥
never_ends m c e = cc

is_reconf : (m : Meaning) (c : Changed) (t : Task m) → Suits m (cmd.Reconf c) t → (x : Reconf) × (t ≡ Reconfiguring x)
is_reconf m c (Reconfiguring x) fits = (x, refl)
is_reconf m c (Syncing s) fits = absurd (never_plays m c fits)
is_reconf m c (Walking y os) fits = absurd (never_plays m c fits)
is_reconf m c (Appending a y) fits = absurd (never_plays m c (purpose_plays m (cmd.Reconf c) y fits))
is_reconf m c (Trimming t) fits = absurd (never_ends m c fits)
is_reconf m c (Copying' y) fits = absurd fits

not_none : (us : List ℕ) (u : ℕ) → Has us u → us ≢ []
not_none us u h e = subst (λ (vs : List ℕ). Has vs u) e h

-- the client works on the command
pub record HasGiven (m : Meaning) (w : World m) (k : ℕ) (c : Changed) : Type 0 where
  pub work : Work m
  pub waits : (client m w k).work ≡ Some work
  pub command : work.command ≡ cmd.Reconf c

-- what is had of a reconfiguration that is ready, also in the middle of its settling
pub record Prepared (m : Meaning) (w : World m) (k e : ℕ) (c : Changed) : Type 0 where
  pub given : (noted_of m w k).epoch ≡ e
  pub low_units : (u : ℕ) → (unit m w u).epoch ≤ e + 1
  pub low_seqrs : (s : ℕ) → (seqr m w s).epoch ≤ e + 1
  pub old : Layout
  pub decided : IsDecided m w e old
  pub units : (u : ℕ) → Contains (next_units old c) u → runs m w (unit_id u) ≡ true

pub has_given : (m : Meaning) (w : World m) (k : ℕ) (c : Changed) → WaitsAlone m w k (cmd.Reconf c) → HasGiven m w k c
has_given m w k c a = record { work = a.work; waits = a.waits; command = a.command }

pub prepared : (m : Meaning) (w : World m) (k e : ℕ) (c : Changed) → IsReadyToChange m w k e c → Prepared m w k e c
prepared m w k e c b = record { given = b.given; low_units = b.none_above.units; low_seqrs = b.none_above.seqrs; old = b.old; decided = b.decided; units = b.units }

module _ (m : Meaning) (h : Header) (zs : Moves m) (r : Reaches m h zs (after m h zs)) (k e : ℕ) (c : Changed) (a : HasGiven m (after m h zs) k c) (b : Prepared m (after m h zs) k e c) where
  abbrev end : World m
  end = after m h zs

  abbrev n : ℕ
  n = (noted_of m (after m h zs) k).epoch

  abbrev ps : List Packet
  ps = (after m h zs).packets

  unit_below : (u : ℕ) → runs m (after m h zs) (unit_id u) ≡ true → u < length (after m h zs).units
  unit_below u on = grind arith

  fence_low : (f : ℕ) → ToldFence (after m h zs).packets (noted_of m (after m h zs) k).epoch f → f ≤ e + 1
  fence_low f t = let x = (fences_hold m h zs).each t.unit f t.packet t.sent t.from t.is in let y = b.low_units t.unit in omega (arith, x, y)

  old_low : (f : ℕ) → ToldOld (after m h zs).packets (noted_of m (after m h zs) k).epoch f → f ≤ e + 1
  old_low f t = by ((olds_reached m h zs r).told t.seqr f t.packet t.sent t.from t.is)
    where
      by : Arrived m (config m (after m h zs)) f → f ≤ e + 1
      by (OfUnit u le) = let y = b.low_units u in omega (arith, le, y)
      by (OfSeqr s le) = let y = b.low_seqrs s in omega (arith, le, y)

  -- no such client learns
  not_warned : (x : Reconf) (w : ReconfWork) → x.stand.epoch ≡ epoch_at (after m h zs).packets (noted_of m (after m h zs) k).epoch w → Warned (after m h zs).packets (noted_of m (after m h zs) k).epoch x w → ⊥
  not_warned x = by
    where
      given : n ≡ e
      given = b.given

      early : x.stand.epoch ≡ n → (f : ℕ) × (x.stand.epoch + 1 < f) × ToldFence ps n f → ⊥
      early at f = let low = fence_low f.0 f.2 in let less = f.1 in omega (arith, at, low, less, given)

      by : (w : ReconfWork) → x.stand.epoch ≡ epoch_at ps n w → Warned ps n x w → ⊥
      by (Starting i) at f = let low = old_low f.0 f.2 in let less = f.1 in omega (arith, at, low, less, given)
      by (SealingSpare i) at f = early at f
      by (LookingSpare i) at f = early at f
      by (Sealing ws acks) at f = early at f
      by (LookingAgain i acks) at f = early at f
      by (Agreeing v) at f = early at f
      by (Telling ws i q) at f = early at f

  record InHand : Type 0 where
    reconf : Reconf
    hand : a.work.hand ≡ Doing (Reconfiguring reconf)
    command : a.work.command ≡ cmd.Reconf reconf.change
    kept : ReconfKept (after m h zs).packets (noted_of m (after m h zs) k).epoch reconf

  in_hand : InHand
  in_hand = by a.work.hand refl suits kept.0 kept.1
    where
      kept : WorkKept ps n m (Some a.work)
      kept = subst (λ (o : Option (Work m)). WorkKept ps n m o) a.waits (kept_here m h zs r k)

      suits : Suits m (cmd.Reconf c) (task_in m a.work.hand)
      suits = subst (λ (x : CommandOf m). Suits m x (task_in m a.work.hand)) a.command (subst (λ (o : Option (Work m)). WorkSuits m o) a.waits (all_suit m h zs (after m h zs) r k))

      by : (d : Hand m) → a.work.hand ≡ d → Suits m (cmd.Reconf c) (task_in m d) → TaskKept ps n m a.work.command (task_in m d) → HandWarned ps n m d → InHand
      by (Doing t) is fits g w =
          let x = is_reconf m c t fits in
          let f = subst (TaskKept ps n m a.work.command) x.1 g in
          record { reconf = x.0; hand = is ∙ ap (λ (y : Task m). Doing y) x.1; command = f.0; kept = f.1 }
      by (Learning ws t) is fits g w =
          let x = is_reconf m c t fits in
          let f = subst (TaskKept ps n m a.work.command) x.1 g in
          absurd (not_warned x.0 x.0.work f.1.epoch (subst (λ (y : Task m). HandWarned ps n m (Learning ws y)) x.1 w))

  abbrev x : Reconf
  x = in_hand.reconf

  has : reconf_of m (client m (after m h zs) k).work ≡ Some in_hand.reconf
  has = ap (λ (o : Option (Work m)). reconf_of m o) a.waits ∙ ap (λ (d : Hand m). task_reconf m (task_in m d)) in_hand.hand

  change : in_hand.reconf.change ≡ c
  change = one_change m in_hand.reconf.change c (sym in_hand.command ∙ a.command)

  stands : in_hand.reconf.stand ≡ (client m (after m h zs) k).stand
  stands = (subst (λ (o : Option Reconf). HandOk m (config m end).cluster.layouts k ps (client m end k).stand o) has ((pax_always m h zs (after m h zs) r).clients k)).stand

  stand_at : in_hand.reconf.stand.epoch ≡ (client m (after m h zs) k).stand.epoch
  stand_at = ap (λ (p : Layout). p.epoch) stands

  stand_rules : IsLayout in_hand.reconf.stand
  stand_rules = subst IsLayout (sym stands) (layouts_are_sound m h zs (after m h zs) r _ _ ((layouts_are_known m h zs (after m h zs) r).clients k)).rules

  -- At the epoch of the change.
  module _ (at : (client m (after m h zs) k).stand.epoch ≡ e) (most : MostRun m (after m h zs)) (none_above : NoneAbove m (after m h zs) (e + 1)) where
    before : IsBefore m in_hand.reconf.work
    before = by in_hand.reconf.work in_hand.kept.epoch
      where
        given : n ≡ e
        given = b.given

        by : (w : ReconfWork) → x.stand.epoch ≡ epoch_at ps n w → IsBefore m w
        by (Starting i) is = omega (arith, is, given, at, stand_at)
        by (SealingSpare i) is = tt
        by (LookingSpare i) is = tt
        by (Sealing ws acks) is = tt
        by (LookingAgain i acks) is = tt
        by (Agreeing v) is = tt
        by (Telling ws i q) is = tt

    fine : change_fault in_hand.reconf.stand in_hand.reconf.change ≡ None
    fine = by in_hand.reconf.work before in_hand.kept.fine
      where
        by : (w : ReconfWork) → IsBefore m w → Fine ps n x w → change_fault x.stand x.change ≡ None
        by (Starting i) f g = absurd f
        by (SealingSpare i) f g = g
        by (LookingSpare i) f g = g
        by (Sealing ws acks) f g = g
        by (LookingAgain i acks) f g = g
        by (Agreeing v) f g = g
        by (Telling ws i q) f g = g

    -- the client's layout is the one of that epoch
    same_old : b.old ≡ in_hand.reconf.stand
    same_old = one_layout m h zs (after m h zs) r e b.old in_hand.reconf.stand b.decided
        (subst (λ (p : Layout). IsDecided m end e p) (sym stands) (subst (λ (i : ℕ). IsDecided m end i (client m end k).stand) at ((layouts_are_known m h zs (after m h zs) r).clients k)))

    units_run : (u : ℕ) → Has (next_units in_hand.reconf.stand in_hand.reconf.change) u → runs m (after m h zs) (unit_id u) ≡ true
    units_run u g = b.units u (subst (λ (p : Layout). Contains (next_units p c) u) (sym same_old) (subst (λ (z : Changed). Contains (next_units x.stand z) u) change (contained (next_units x.stand x.change) u g)))

    few : length (next_units in_hand.reconf.stand in_hand.reconf.change) ≤ (after m h zs).cluster.units
    few =
        let long = units_are m h zs (after m h zs) r in
        next_few x.stand x.change end.cluster.units (λ u g. let less = unit_below u (units_run u g) in omega (arith, less, long))

    waiting : WaitsForUnits m (after m h zs) in_hand.reconf in_hand.reconf.work
    waiting = by x.work in_hand.kept.waiting (subst (λ (o : Option Reconf). ReconfGood m ps (IsKnown h.layouts (first_layout h) ps) Any o) has (goods m h zs r k))
      where
        by : (w : ReconfWork) → Waiting ps n x w → WorkGood ps (IsKnown h.layouts (first_layout h) ps) Any x w → WaitsForUnits m end x w
        by (SealingSpare i) f g = subst (λ (o : Option Join). JoinsSince m end o 0) (sym f.1) (omega arith)
        by (LookingSpare i) f g = subst (λ (o : Option Join). JoinsSince m end o x.stand.epoch) (sym f.1) (seal_holds m (config m end) f.0.unit x.stand.epoch f.2.0 (known m h zs) f.2.1)
        by (Sealing ws acks) f g = (
          f.0,
          let long = f.1 in omega (arith, long, few),
          λ v there. contained (next_units x.stand x.change) v.0 (g.waited v.0 v.1 (has_contained ws v there)),
        )
        by (LookingAgain i acks) f g = subst (λ (o : Option Join). JoinsSince m end o (x.stand.epoch + 1)) (sym f.1) (sealed (g.cover f.0.unit (next_joins x.stand x.change fine f.0 f.1)))
          where
            sealed : ((q : ℕ) × Has {X = ℕ × ℕ} [] (f.0.unit, q)) ⊎ ((q : ℕ) × Has acks (f.0.unit, q)) → x.stand.epoch + 1 ≤ (unit m end f.0.unit).epoch
            sealed (inl s) = absurd s.1
            sealed (inr s) = seal_holds m (config m end) f.0.unit (next_epoch x) s.0 (known m h zs) (g.ok f.0.unit s.0 s.1).0
        by (Agreeing v) f g = tt
        by (Telling ws i q) f g = tt
        by (Starting i) f g = tt

    changes : WaitsToChange m (after m h zs) k c
    changes = record {
      work = a.work;
      waits = a.waits;
      reconf = x;
      hand = in_hand.hand;
      change = change;
      stands = stands;
      before = before;
      waiting = waiting;
      some = subst (λ (z : Changed). next_units x.stand z ≢ []) change (let u = next_some x.stand x.change fine stand_rules in not_none (next_units x.stand x.change) u.0 u.1);
      few = subst (λ (z : Changed). length (next_units x.stand z) ≤ end.cluster.units) change few;
      units = λ u there. units_run u (has_contained (next_units x.stand x.change) u (subst (λ (z : Changed). Contains (next_units x.stand z) u) (sym change) there));
      spare = λ j is. units_run j.unit (next_joins x.stand x.change fine j (ap (λ (z : Changed). z.join) change ∙ is));
      layouts = most;
      none_above = subst (λ (i : ℕ). NoneAbove m end (i + 1)) (sym at) none_above;
    }

  -- At the next one.
  module _ (at : (client m (after m h zs) k).stand.epoch ≡ e + 1) where
    starting : (i : ℕ) × (in_hand.reconf.work ≡ Starting i)
    starting = by x.work refl in_hand.kept.epoch
      where
        given : n ≡ e
        given = b.given

        no : x.stand.epoch ≡ n → ⊥
        no is = omega (arith, is, given, at, stand_at)

        by : (w : ReconfWork) → x.work ≡ w → x.stand.epoch ≡ epoch_at ps n w → (i : ℕ) × (x.work ≡ Starting i)
        by (Starting i) is f = (i, is)
        by (SealingSpare i) is f = absurd (no f)
        by (LookingSpare i) is f = absurd (no f)
        by (Sealing ws acks) is f = absurd (no f)
        by (LookingAgain i acks) is f = absurd (no f)
        by (Agreeing v) is f = absurd (no f)
        by (Telling ws i q) is f = absurd (no f)

    first : 1 ≤ e
    first = by b.decided
      where
        by : IsDecided m end e b.old → 1 ≤ e
        by (inl d) = let is = d.0 in omega (arith, is)
        by (inr d) = let less = d.0 in omega (arith, less)

    -- what it has adopted is made by the change of the layout of that epoch
    made : IsOf b.old c (client m (after m h zs) k).stand
    made = subst (λ (p : Layout). IsOf b.old c p) stands (subst (λ (z : Changed). IsOf b.old z in_hand.reconf.stand) change (by (subst (λ (w : ReconfWork). WorkMine h ps k x w) starting.1 mine.work)))
      where
        mine : ReconfMine h ps k x
        mine = subst (λ (o : Option Reconf). HandMine h ps k o) has (subst (λ (g : Header). HandMine g ps k (reconf_of m (client m end k).work)) (has_header m h zs) ((mine_hold m h zs).hands k))

        by : (x.stand.epoch ≤ 1) ⊎ Comes h ps k x → IsOf b.old x.change x.stand
        by (inl low) = absurd (omega (arith, low, at, stand_at, first))
        by (inr g) = subst (λ (p : Layout). IsOf p x.change x.stand) (one_layout m h zs (after m h zs) r e g.old b.old (of_epoch g.old.epoch (omega (arith, before, stand_at, at)) (decided_for m h zs r.header (lawful_give m (start m h).cluster zs r.goes.lawful) g.old g.known)) b.decided) g.is
          where
            before : g.old.epoch + 1 ≡ x.stand.epoch
            before = g.before

            of_epoch : (i : ℕ) → i ≡ e → IsDecided m end i g.old → IsDecided m end e g.old
            of_epoch i is d = subst (λ (j : ℕ). IsDecided m end j g.old) is d

    sequencer : (client m (after m h zs) k).stand.seq ≡ c.seq
    sequencer = made.0

    units_start : (u : ℕ) → Contains (units_of (client m (after m h zs) k).stand) u → runs m (after m h zs) (unit_id u) ≡ true
    units_start u there = b.units u (subst (λ (us : List ℕ). Contains us u) made.1 there)

    starts : WaitsToStart m (after m h zs) k (e + 1) × ((client m (after m h zs) k).stand.seq ≡ c.seq)
    starts = (record { work = a.work; waits = a.waits; reconf = x; hand = in_hand.hand; rid = starting.0; starting = starting.1; stands = at }, sequencer)

pub changes_work : Always all_kinds (ChangesWork all_kinds)
changes_work h zs w r = subst (λ (u : World all_kinds). Reaches all_kinds h zs u → ChangesWork all_kinds u) (sym r.goes.is) (λ s k e c a b at. changes all_kinds h zs s k e c (has_given all_kinds _ k c a) (prepared all_kinds _ k e c b) at b.layouts b.none_above) r

pub changes_start : Always all_kinds (ChangesStart all_kinds)
changes_start h zs w r = subst (λ (u : World all_kinds). Reaches all_kinds h zs u → ChangesStart all_kinds u) (sym r.goes.is) (λ s k e c a b at. starts all_kinds h zs s k e c (has_given all_kinds _ k c a) (prepared all_kinds _ k e c b) at) r

-- there the sequencer is the change's, and all units of the layout run
abbrev pub StandsNext : World all_kinds → ℕ → Changed → Type 0
StandsNext w k c = ((client all_kinds w k).stand.seq ≡ c.seq) × ((u : ℕ) → Contains (units_of (client all_kinds w k).stand) u → runs all_kinds w (unit_id u) ≡ true)

abbrev StandNext : World all_kinds → Type 0
StandNext w = (k e : ℕ) (c : Changed) → HasGiven all_kinds w k c → Prepared all_kinds w k e c → (client all_kinds w k).stand.epoch ≡ e + 1 → StandsNext w k c

pub stands_next : Always all_kinds StandNext
stands_next h zs w r = subst (λ (u : World all_kinds). Reaches all_kinds h zs u → StandNext u) (sym r.goes.is) (λ s k e c a b at. (sequencer all_kinds h zs s k e c a b at, units_start all_kinds h zs s k e c a b at)) r

-- a reconfiguration in hand is of its command's change
abbrev IsCommands : World all_kinds → Type 0
IsCommands w = (k : ℕ) (y : Work all_kinds) (x : Reconf) → (client all_kinds w k).work ≡ Some y → y.hand ≡ Doing (Reconfiguring x) → y.command ≡ cmd.Reconf x.change

commands_here : (h : Header) (zs : Moves all_kinds) → Reaches all_kinds h zs (after all_kinds h zs) → IsCommands (after all_kinds h zs)
commands_here h zs s k y x is hand = (subst (TaskKept (after all_kinds h zs).packets (noted_of all_kinds (after all_kinds h zs) k).epoch all_kinds y.command) (ap (λ (d : Hand all_kinds). task_in all_kinds d) hand)
    (subst (λ (o : Option (Work all_kinds)). WorkKept (after all_kinds h zs).packets (noted_of all_kinds (after all_kinds h zs) k).epoch all_kinds o) is (kept_here all_kinds h zs s k)).0).0

pub is_commands : Always all_kinds IsCommands
is_commands h zs w r = subst (λ (u : World all_kinds). Reaches all_kinds h zs u → IsCommands u) (sym r.goes.is) (λ s. commands_here h zs s) r
