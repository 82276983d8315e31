-- Over a run, each sequencer's lists are true of the log that it ends with.
use Rattle.std.proofs.Common.{◌≡◌, ℕ, ◌<◌, List, [], ◌∷◌, ◌++◌, length, Bool, true, false, refl, sym, ap, ◌∙◌, subst, arith, Some, None, Option, append-nil}
use Rattle.std.specs.Prelude.{slice_index_or, ◌==◌, if◌then◌else◌}
use Rattle.tg_base.specs.Clusters.{Header}
use Rattle.tg_base.specs.Layouts.{Layout}
use Rattle.tg_base.specs.declared.ids.Role.TheVariants as role
use Rattle.tg_base.specs.declared.msg.Msg.{Msg}
use Rattle.tg_base.specs.declared.msg.Msg.TheVariants as msg
use Rattle.tg_base.specs.declared.packet.Packet.{Packet}
use Rattle.tg_base.proofs.Rules.{layout_rules}
use Rattle.tg_kind.specs.Meaning.{Meaning}
use Rattle.tg_model.specs.Kinds.{EventOf}
use Rattle.tg_protocol.specs.Words.{seqr_id, numbers}
use Rattle.tg_protocol.specs.Layouts.{first_layout}
use Rattle.tg_protocol.specs.Cells.{CellJob}
use Rattle.tg_protocol.specs.Sequencers.{SeqrState, SeqrTurn, new_seqr, seqr_step, seqr_tick}
use Rattle.tg_protocol.specs.Worlds.{World, start, seqr, log, happens, next_event}
use Rattle.tg_protocol.specs.Runs.{Moves, Move, Next, Takes, run, Reaches}
use Rattle.tg_law_layouts.specs.Moves.After.{after}
use Rattle.tg_law_layouts.specs.Moves.Configs.{Config, config, seqr_in}
use Rattle.tg_law_layouts.proofs.Moves.Growth.{IsCalm, by_seqr}
use Rattle.tg_law_layouts.proofs.Moves.Lists.{contained, at_map, at_set}
use Rattle.tg_law_layouts.proofs.Moves.Members.{Has, has_left}
use Rattle.tg_law_layouts.proofs.Moves.Moves.{Comes, seqr_turn, SeqrInput, Hears, Ticks, step_cases}
use Rattle.tg_law_layouts.proofs.Moves.Scripts.{run_both}
use Rattle.tg_law_layouts.specs.Layouts.Decisions.{IsOfDecided, TellsDecided}
use Rattle.tg_law_layouts.proofs.Layouts.Deciding.{layouts_are_known, layouts_are_sound}
use Rattle.tg_law_layouts.proofs.Layouts.Layouts.{more}
use Rattle.tg_law_cells.proofs.Tokens.Naming.{Keeps', AsBefore, Learnt, step_keeps}
use Rattle.tg_law_walks.specs.Walks.Seqrs.{HasLists, IsSeqr, ScanStepsAs, StepsAs}
use Rattle.tg_law_walks.proofs.Walks.Seqrs.{seqrs_begin, seqrs_stay}
use Rattle.tg_law_walks.proofs.Walks.Reading.{reaches_later}
use Rattle.tg_law_cells.proofs.Entries.Lists.{joined}
use Rattle.tg_law_walks.specs.Lists.Drafted.{DraftsFit}
use Rattle.tg_law_walks.specs.Lists.Lists.{Counts, AreBounds, SeqrsTrue, ListsKnown, EachLaterBySpareTrims}
use Rattle.tg_law_walks.specs.Lists.Spared.{TrimsWereSpare}
use Rattle.tg_law_walks.proofs.Lists.Fits.{drafts_fit}
use Rattle.tg_law_walks.proofs.Lists.Issuing.{issues_as}
use Rattle.tg_law_walks.proofs.Lists.Reached.{before_reached}
use Rattle.tg_law_walks.proofs.Lists.Scanning.{scan_ends}

module _ (m : Meaning) (h : Header) (zs : Moves m) (r : Reaches m h zs (after m h zs)) (trims : TrimsWereSpare m h zs) (fit : DraftsFit m (after m h zs)) (bound : ℕ → ℕ) (bounds : AreBounds m (after m h zs) bound) where
  -- what holds of each sequencer
  pub record Fine (s : SeqrState) : Type 0 where
    pub so : IsSeqr (log m (after m h zs)) bound s
    pub zero : s.epoch ≡ 0 → s.proj.start ≡ 0

  abbrev Sent : List Packet → Type 0
  Sent ps = (x : Packet) → Has ps x → Has (after m h zs).packets x

  abbrev All : Config m → Type 0
  All c = Sent c.packets → (s : ℕ) → Fine (seqr_in m c s)

  module _ (xs : Moves m) (e : EventOf m) (ys : Moves m) (split : zs ≡ xs ++ Takes e ∷ ys) (all : All (config m (after m h xs))) where
    rw : Reaches m h xs (after m h xs)
    rw = before_reached m h zs r xs (Takes e ∷ ys) split

    module _ (s : ℕ) (fine : Fine (seqr_in m (config m (after m h xs)) s)) (p : Packet) (comes : Comes m (config m (after m h xs)) p (seqr_id s)) where
      abbrev z : SeqrState
      z = seqr_in m (config m (after m h xs)) s

      abbrev Later' : Msg → Type 0
      Later' y = Sent (seqr_turn m (config m (after m h xs)) s (seqr_step (seqr_in m (config m (after m h xs)) s) p.from p.rid y)).packets

      scans_as : (o : Option CellJob) → z.scan ≡ o → ScanStepsAs (log m (after m h zs)) z o p.from p.rid p.msg
      scans_as None i = tt
      scans_as (Some j) i = λ a. scan_ends m h zs r trims fit xs e ys split s p comes.sent comes.to_node j i (fine.so.job j i).0 (fine.so.job j i).1 fine.zero a

      steps_as : (y : Msg) → p.msg ≡ y → Later' y → StepsAs (log m (after m h zs)) bound z p.from p.rid y
      steps_as (msg.Token epoch os) i f = λ g. issues_as m h zs r trims fit bound bounds xs e ys split s p comes.sent comes.to_node epoch os i g f
      steps_as (msg.Learn q) i f = tt
      steps_as (msg.Check epoch os) i f = tt
      steps_as y i f = subst (λ (x : Msg). ScanStepsAs (log m (after m h zs)) z z.scan p.from p.rid x) i (scans_as z.scan refl)

      zero_now : (t : SeqrState) → Keeps' z p.msg t → t.epoch ≡ 0 → t.proj.start ≡ 0
      zero_now t (AsBefore a b c) i = ap (λ (q : Layout). q.start) b ∙ fine.zero (sym c ∙ i)
      zero_now t (Learnt a b c d) i =
          let known : IsOfDecided m (after m h xs) t.proj = subst (λ (y : Msg). TellsDecided m (after m h xs) y) b ((layouts_are_known m h xs (after m h xs) rw).sent p (contained _ p comes.sent)) in
          let some = (layout_rules t.proj (layouts_are_sound m h xs (after m h xs) rw t.proj.epoch t.proj known).rules).epoch in
          absurd (omega (arith, some, c, i))

      heard : Later' p.msg → Fine (seqr_step z p.from p.rid p.msg).now
      heard f = record {
        so = seqrs_stay (log m (after m h zs)) bound z p.from p.rid p.msg fine.so (steps_as p.msg refl f);
        zero = zero_now _ (step_keeps z p.from p.rid p.msg);
      }

    turned : (s : ℕ) (t : SeqrTurn) → Fine (seqr_in m (config m (after m h xs)) s) → SeqrInput m (config m (after m h xs)) s t → Sent (seqr_turn m (config m (after m h xs)) s t).packets → Fine t.now
    unfolding seqr_tick
    turned s t fine (Hears p comes) f = heard s fine p comes f
    turned s t fine Ticks f = fine

    early : (d : Config m) → ((x : Packet) → Has (after m h xs).packets x → Has d.packets x) → Sent d.packets → Sent (after m h xs).packets
    early d up f x g = f x (up x g)

    calm : IsCalm m role.Seqr (config m (after m h xs)) All
    calm d q f s = subst Fine (λ i. slice_index_or (sym (q.seqrs refl) i) s (new_seqr s (sym q.cluster i).limit (first_layout (sym q.cluster i)))) (all (λ x g. f x (q.grows.sent x g)) s)

    own : (s : ℕ) (t : SeqrTurn) → SeqrInput m (config m (after m h xs)) s t → s < length (after m h xs).seqrs → All (seqr_turn m (config m (after m h xs)) s t)
    own s t i less f =
        let before = all (λ x g. f x (has_left (after m h xs).packets _ x g)) in
        at_set (after m h xs).seqrs s t.now (λ j. new_seqr j (after m h xs).cluster.limit (first_layout (after m h xs).cluster)) (λ j x. Fine x) less (turned s t (before s) i f) (λ j other. before j)

    stepped : All (config m (happens m (after m h xs) e))
    stepped = step_cases m (after m h xs) All (by_seqr m All (config m (after m h xs)) all calm own) e

  -- Along the run.

  then_takes : (xs : Moves m) (e : EventOf m) → after m h (xs ++ Takes e ∷ []) ≡ happens m (after m h xs) e
  unfolding run
  then_takes xs e = run_both m xs (Takes e ∷ []) (start m h)

  then_next : (xs : Moves m) → after m h (xs ++ Next ∷ []) ≡ next_event m (after m h xs)
  unfolding run
  then_next xs = run_both m xs (Next ∷ []) (start m h)

  shifts : (xs : Moves m) (x : Move m) (ys : Moves m) → zs ≡ xs ++ x ∷ ys → zs ≡ (xs ++ x ∷ []) ++ ys
  shifts xs x ys e = e ∙ sym (joined xs (x ∷ []) ys)

  -- up to any world through which it comes
  all_on : (xs ms ys : Moves m) → zs ≡ xs ++ (ms ++ ys) → All (config m (after m h xs)) → All (config m (after m h (xs ++ ms)))
  all_on xs [] ys e a = subst (λ (us : Moves m). All (config m (after m h us))) (sym (append-nil xs)) a
  all_on xs (Next ∷ ms) ys e a =
      subst (λ (us : Moves m). All (config m (after m h us))) (joined xs (Next ∷ []) ms)
      (all_on (xs ++ Next ∷ []) ms ys (shifts xs Next (ms ++ ys) e) (subst (λ (u : World m). All (config m u)) (sym (then_next xs)) a))
  all_on xs (Takes x ∷ ms) ys e a =
      subst (λ (us : Moves m). All (config m (after m h us))) (joined xs (Takes x ∷ []) ms)
      (all_on (xs ++ Takes x ∷ []) ms ys (shifts xs (Takes x) (ms ++ ys) e) (subst (λ (u : World m). All (config m u)) (sym (then_takes xs x)) (stepped xs x (ms ++ ys) e a)))

  fine_start : (s n : ℕ) → Fine (new_seqr n h.limit (first_layout h))
  unfolding new_seqr
  fine_start s n = record { so = seqrs_begin (log m (after m h zs)) bound n h.limit (first_layout h); zero = λ i. refl }

  start_all : All (config m (after m h []))
  unfolding run start
  start_all f s = at_map (λ n. new_seqr n h.limit (first_layout h)) (numbers h.seqs 0) s (new_seqr s h.limit (first_layout h)) Fine (λ n. fine_start s n) (fine_start s s)

  pub fine_at : (xs ys : Moves m) → zs ≡ xs ++ ys → (s : ℕ) → Fine (seqr_in m (config m (after m h xs)) s)
  fine_at xs ys e = all_on [] xs ys e start_all (λ x g. subst (λ (us : Moves m). Has (after m h us).packets x) (sym e) (more m h xs ys x g))

-- The laws.

module _ (m : Meaning) where
  later_is : (h : Header) (xs ys : Moves m) (w v : World m) → w ≡ after m h xs → v ≡ run m ys w → v ≡ after m h (xs ++ ys)
  later_is h xs ys w v a b = b ∙ (ap (λ u. run m ys u) a ∙ sym (run_both m xs ys (start m h)))

  true_here : (h : Header) (xs ys : Moves m) → Reaches m h (xs ++ ys) (after m h (xs ++ ys)) → TrimsWereSpare m h (xs ++ ys) → DraftsFit m (after m h (xs ++ ys)) → SeqrsTrue m (after m h xs) (after m h (xs ++ ys))
  true_here h xs ys r trims fit bound bounds s = (fine_at m h (xs ++ ys) r trims fit bound bounds xs ys refl s).so

  pub seqrs_are_true : EachLaterBySpareTrims m (SeqrsTrue m)
  seqrs_are_true h xs w v r l trims =
      let at = later_is h xs l.0 w v r.goes.is l.1.is in
      let here = subst (λ u. Reaches m h (xs ++ l.0) u) at (reaches_later m h xs w v r l) in
      subst (λ u. SeqrsTrue m u v) (sym r.goes.is)
      (subst (λ u. SeqrsTrue m (after m h xs) u) (sym at)
      (true_here h xs l.0 here trims (drafts_fit m h (xs ++ l.0) (after m h (xs ++ l.0)) here)))

  -- a bound of one epoch
  abbrev pub bound_of : ℕ → ℕ → ℕ → ℕ
  bound_of epoch pos n = if n == epoch then pos else 0

  at_epoch : (b : Bool) (pos : ℕ) → 0 < (if b then pos else 0) → b ≡ true
  at_epoch true pos l = refl
  at_epoch false pos l = absurd (omega (arith, l))

  is_same : (a b : ℕ) → (a == b) ≡ true → a ≡ b
  is_same a b e = grind arith

  itself : (n : ℕ) → (n == n) ≡ true
  itself n = grind arith

  pub bounds_of : (v : World m) (epoch pos : ℕ) → Counts m v epoch pos → AreBounds m v (bound_of epoch pos)
  bounds_of v epoch pos c n l =
      let t = at_epoch (n == epoch) pos l in
      subst (λ (b : Bool). Counts m v n (if b then pos else 0)) (sym t) (subst (λ (k : ℕ). Counts m v k pos) (sym (is_same n epoch t)) c)

  pub lists_are_known : EachLaterBySpareTrims m (ListsKnown m)
  lists_are_known h xs w v r l trims s ready c =
      let k = seqrs_are_true h xs w v r l trims (bound_of (seqr m w s).epoch (seqr m w s).next) (bounds_of v (seqr m w s).epoch (seqr m w s).next c) s in
      subst (HasLists (log m v) (bound_of (seqr m w s).epoch (seqr m w s).next) (seqr m w s)) ready k.lists
      (let i = ap (λ (b : Bool). if b then (seqr m w s).next else 0) (itself (seqr m w s).epoch) in omega (arith, i))
