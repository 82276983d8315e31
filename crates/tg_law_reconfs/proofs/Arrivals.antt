-- An epoch that a sequencer tells as later than a request's, some node has come to: itself, or a unit that fenced it.
use Rattle.std.proofs.Common.{◌≡◌, ◌⊎◌, ℕ, ◌≤◌, ◌<◌, [], ◌∷◌, List, length, map, Bool, true, false, not, ◌||◌, eqb, refl, sym, ap, ◌∙◌, subst, inl, inr, arith, append-nil, Some, None, Option}
use Rattle.std.specs.Prelude.{nat_lt, nat_le, slice_index_or}
use Rattle.tg_base.specs.Clusters.{Header}
use Rattle.tg_base.specs.Layouts.{Layout}
use Rattle.tg_base.specs.declared.ids.NodeId.{NodeId}
use Rattle.tg_base.specs.declared.ids.Oid.{Oid}
use Rattle.tg_base.specs.declared.ids.Role.TheVariants as role
use Rattle.tg_base.specs.declared.marks.StreamLink.{StreamLink}
use Rattle.tg_base.specs.declared.msg.Msg.{Msg}
use Rattle.tg_base.specs.declared.msg.Msg.TheVariants as msg
use Rattle.tg_base.specs.declared.packet.Packet.{Packet}
use Rattle.tg_kind.specs.Meaning.{Meaning}
use Rattle.tg_protocol.specs.Words.{seqr_id}
use Rattle.tg_protocol.specs.Layouts.{first_layout}
use Rattle.tg_protocol.specs.Sequencers.{SeqrState, SeqrTurn, new_seqr, links_of, scanning, answers, begun, stand_answer, issue, on_token, unfenced, own_epoch, on_learn, learn_or_old, seqr_step, seqr_tick}
use Rattle.tg_protocol.specs.Worlds.{start, packet_of}
use Rattle.tg_protocol.specs.Runs.{Moves, Takes, Reaches}
use Rattle.tg_law_layouts.specs.Moves.After.{after}
use Rattle.tg_law_layouts.specs.Moves.Configs.{Config, config, seqr_in, unit_in}
use Rattle.tg_law_layouts.specs.Moves.Telling.{is_request}
use Rattle.tg_law_layouts.proofs.Moves.Lists.{at_set}
use Rattle.tg_law_layouts.proofs.Moves.Members.{Has, has_either, has_map}
use Rattle.tg_law_layouts.proofs.Moves.Moves.{Cases, SeqrInput, Hears, Ticks, seqr_turn}
use Rattle.tg_law_layouts.proofs.Moves.Growth.{IsCalm, by_seqr}
use Rattle.tg_law_walks.proofs.Lists.Reached.{before_reached}
use Rattle.tg_law_headline.proofs.Issues.Along.{along}
use Rattle.tg_law_finish.proofs.Finish.Sends.{AllSent, one_sent, begun_sent, scan_fed_sent, tick_sent}
use Rattle.tg_law_reconfs.proofs.Fencing.{fences_reached}

-- what a sequencer tells of epochs is its own, or its fence's
abbrev Tells : SeqrState → Msg → Type 0
Tells s (msg.OldEpoch e) = (e ≡ s.epoch) ⊎ (s.fence ≡ Some e)
Tells s x = Unit {0}

asks_tell : (s : SeqrState) (y : Msg) → is_request y ≡ true → Tells s y
unfolding is_request
asks_tell s (msg.OldEpoch e) is = absurd cc
asks_tell s y is = tt

stand_tells : (s d : SeqrState) (ls : List StreamLink) (b : Bool) → Tells s (stand_answer d ls b)
stand_tells s d ls true = tt
stand_tells s d ls false = tt

abbrev Fine : SeqrState → SeqrTurn → Type 0
Fine s t = AllSent (Tells s) t.sends

module _ (s : SeqrState) (from : NodeId) (rid : ℕ) where
  issue_tells : (os : List Oid) (b : Bool) → Fine s (issue s os from rid b)
  issue_tells os true = one_sent (Tells s) from rid _ tt
  issue_tells os false = one_sent (Tells s) from rid _ tt

  token_tells : (os : List Oid) (b : Bool) → Fine s (on_token s os from rid b)
  token_tells os true = one_sent (Tells s) from rid _ tt
  token_tells os false = issue_tells os (nat_le s.limit s.next)

  unfenced_tells : (f : Option ℕ) (t : SeqrTurn) → s.fence ≡ f → Fine s t → Fine s (unfenced f s from rid t)
  unfenced_tells None t is k = k
  unfenced_tells (Some e) t is k = one_sent (Tells s) from rid (msg.OldEpoch e) (inr is)

  own_tells : (b : Bool) (t : SeqrTurn) → Fine s t → Fine s (own_epoch b s from rid t)
  own_tells true t k = unfenced_tells s.fence t refl k
  own_tells false t k = one_sent (Tells s) from rid (msg.OldEpoch s.epoch) (inl refl)

  learn_tells : (q : Layout) (b : Bool) → Fine s (on_learn s q from rid b)
  learn_tells q true = begun_sent (Tells s) (asks_tell s) s q from rid (stand_tells s (begun s q) [] (scanning (begun s q)))
  learn_tells q false = unfenced_tells s.fence (answers s from rid (stand_answer s [] (scanning s))) refl (one_sent (Tells s) from rid (stand_answer s [] (scanning s)) (stand_tells s s [] (scanning s)))

  learn_or_tells : (q : Layout) (b : Bool) → Fine s (learn_or_old s q from rid b)
  learn_or_tells q true = one_sent (Tells s) from rid (msg.OldEpoch s.epoch) (inl refl)
  learn_or_tells q false = learn_tells q (nat_lt s.epoch q.epoch)

  step_tells : (y : Msg) → Fine s (seqr_step s from rid y)
  unfolding seqr_step
  step_tells (msg.Learn q) = learn_or_tells q (not (eqb q.seq s.num) || nat_lt q.epoch s.epoch)
  step_tells (msg.Token e os) = own_tells (eqb e s.epoch) (on_token s os from rid (scanning s)) (token_tells os (scanning s))
  step_tells (msg.Check e os) =
      let d = stand_answer s (links_of s.lists os) (scanning s) in
      own_tells (eqb e s.epoch) (answers s from rid d) (one_sent (Tells s) from rid d (stand_tells s s (links_of s.lists os) (scanning s)))
  step_tells y = scan_fed_sent (Tells s) (asks_tell s) s s.scan from rid y

  -- its epoch doesn't fall
  step_up : (y : Msg) → s.epoch ≤ (seqr_step s from rid y).now.epoch
  unfolding seqr_step
  step_up y = grind arith

tick_up : (s : SeqrState) → s.epoch ≤ (seqr_tick s).now.epoch
unfolding seqr_tick
tick_up s = omega arith

up_to : (a b c : ℕ) → a ≤ b → b ≤ c → a ≤ c
up_to a b c x y = omega (arith, x, y)

at_most : (a b : ℕ) → a ≡ b → a ≤ b
at_most a b e = omega (arith, e)

module _ (m : Meaning) where
  -- some node has come to this epoch
  pub data Arrived (c : Config m) (e : ℕ) : Type 0 where
    OfUnit : (u : ℕ) → e ≤ (unit_in m c u).epoch → Arrived c e
    OfSeqr : (s : ℕ) → e ≤ (seqr_in m c s).epoch → Arrived c e

  pub record Olds (c : Config m) : Type 0 where
    pub told : (s e : ℕ) (a : Packet) → Has c.packets a → a.from ≡ seqr_id s → a.msg ≡ msg.OldEpoch e → Arrived c e

  still : (c d : Config m) (e : ℕ) → ((u : ℕ) → (unit_in m c u).epoch ≤ (unit_in m d u).epoch) → ((s : ℕ) → (seqr_in m c s).epoch ≤ (seqr_in m d s).epoch) → Arrived c e → Arrived d e
  still c d e units seqrs (OfUnit u le) = OfUnit u (up_to e _ _ le (units u))
  still c d e units seqrs (OfSeqr s le) = OfSeqr s (up_to e _ _ le (seqrs s))

  olds_calm : (c : Config m) → Olds c → IsCalm m role.Seqr c Olds
  olds_calm c h d q = record { told = λ s e a g from is. still c d e (λ u. (q.grows.unit u).epoch) same (h.told s e a (q.old a g (ap (λ (n : NodeId). n.role) from)) from is) }
    where
      same : (s : ℕ) → (seqr_in m c s).epoch ≤ (seqr_in m d s).epoch
      same s = at_most _ _ (ap (λ (x : SeqrState). x.epoch) (λ i. slice_index_or (sym (q.seqrs refl) i) s (new_seqr s (sym q.cluster i).limit (first_layout (sym q.cluster i)))))

  input_up : (c : Config m) (s : ℕ) (t : SeqrTurn) → SeqrInput m c s t → (seqr_in m c s).epoch ≤ t.now.epoch
  input_up c s _ (Hears p comes) = step_up (seqr_in m c s) p.from p.rid p.msg
  input_up c s _ Ticks = tick_up (seqr_in m c s)

  input_tells : (c : Config m) (s : ℕ) (t : SeqrTurn) → SeqrInput m c s t → Fine (seqr_in m c s) t
  input_tells c s _ (Hears p comes) = step_tells (seqr_in m c s) p.from p.rid p.msg
  input_tells c s _ Ticks = tick_sent (Tells (seqr_in m c s)) (asks_tell (seqr_in m c s)) (seqr_in m c s)

  module _ (c : Config m) (h : Olds c) (fenced : (s e : ℕ) → (seqr_in m c s).fence ≡ Some e → (u : ℕ) × (e ≤ (unit_in m c u).epoch)) where
    olds_on : (s : ℕ) (t : SeqrTurn) → SeqrInput m c s t → s < length c.seqrs → Olds (seqr_turn m c s t)
    olds_on s t i less = record { told = λ k e a g from is. still c (seqr_turn m c s t) e (λ u. at_most _ _ refl) ups (by k e a from is (has_either c.packets (map (packet_of m (seqr_id s)) t.sends) a g)) }
      where
        ups : (j : ℕ) → (seqr_in m c j).epoch ≤ (seqr_in m (seqr_turn m c s t) j).epoch
        ups = at_set c.seqrs s t.now (λ j. new_seqr j c.cluster.limit (first_layout c.cluster)) (λ j x. (seqr_in m c j).epoch ≤ x.epoch) less (input_up c s t i) (λ j other. at_most _ _ refl)

        own : (e : ℕ) → (e ≡ (seqr_in m c s).epoch) ⊎ ((seqr_in m c s).fence ≡ Some e) → Arrived c e
        own e (inl at) = OfSeqr s (at_most e _ at)
        own e (inr f) = let x = fenced s e f in OfUnit x.0 x.1

        by : (k e : ℕ) (a : Packet) → a.from ≡ seqr_id k → a.msg ≡ msg.OldEpoch e → Has c.packets a ⊎ Has (map (packet_of m (seqr_id s)) t.sends) a → Arrived c e
        by k e a from is (inl g) = h.told k e a g from is
        by k e a from is (inr g) =
            let o = has_map (packet_of m (seqr_id s)) t.sends a g in
            own e (subst (Tells (seqr_in m c s)) (sym (ap (λ (x : Packet). x.msg) o.is) ∙ is) (input_tells c s t i o.of o.has))

    olds_cases : Cases m c Olds
    olds_cases = by_seqr m Olds c h (olds_calm c h) olds_on

  olds_start : (h : Header) → Olds (config m (start m h))
  unfolding start
  olds_start h = record { told = λ s e a g. absurd g }

  pub olds_reached : (h : Header) (zs : Moves m) → Reaches m h zs (after m h zs) → Olds (config m (after m h zs))
  olds_reached h zs r = along m h zs Olds
      (λ xs e ys split held. olds_cases (config m (after m h xs)) held (fences_reached m h xs (after m h xs) (before_reached m h zs r xs (Takes e ∷ ys) split))) (olds_start h) zs [] (sym (append-nil zs))
