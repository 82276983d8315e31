-- A world at its start, and the laws.
use Rattle.std.proofs.Common.{ℕ, List, []}
use Rattle.tg_base.specs.Clusters.{Header}
use Rattle.tg_base.specs.declared.ids.NodeId.{NodeId}
use Rattle.tg_base.specs.declared.packet.Packet.{Packet}
use Rattle.tg_kind.specs.Meaning.{Meaning}
use Rattle.tg_protocol.specs.Words.{seqr_id, client_id, numbers}
use Rattle.tg_protocol.specs.Layouts.{first_layout}
use Rattle.tg_protocol.specs.Units.{new_unit}
use Rattle.tg_protocol.specs.Sequencers.{SeqrState, new_seqr, seqr_asks}
use Rattle.tg_protocol.specs.Clients.{Client, new_client}
use Rattle.tg_protocol.specs.Worlds.{start}
use Rattle.tg_law_layouts.proofs.Moves.Members.{has_contained}
use Rattle.tg_law_layouts.specs.Moves.Configs.{Config, config}
use Rattle.tg_law_layouts.specs.Moves.Telling.{Claim, Told, SealedBy}
use Rattle.tg_law_layouts.specs.Requests.Laws.{NumbersUnique, ToldIsSo, ToldOnce, SealsBound}
use Rattle.tg_law_layouts.proofs.Moves.Lists.{at_map, at_replicate}
use Rattle.tg_law_layouts.proofs.Moves.Units.{UnitRight, right_new}
use Rattle.tg_law_layouts.proofs.Moves.Moves.{Keeps, cases_map, keeps_above, run_keeps}
use Rattle.tg_law_layouts.proofs.Requests.Answered.{Units, units_keep}
use Rattle.tg_law_layouts.proofs.Requests.Told.{Tells, Seals, Base, Facts, facts_keep, told_holds}
use Rattle.tg_law_layouts.proofs.Moves.Clients.{reserved}
use Rattle.tg_law_layouts.proofs.Requests.Numbers.{Asks, Numbers, numbers_keep, numbers_once}
use Rattle.tg_protocol.specs.Runs.{Moves, Always}
use Rattle.tg_law_layouts.proofs.Moves.Always.{always}
use Rattle.tg_law_layouts.specs.Moves.After.{after}

asks_start : (n : NodeId) (next : ℕ) → Asks [] n next []
asks_start n next = record { below = λ p h. absurd h; open' = λ o h. absurd h; agree = λ o p h. absurd h; one = λ o q h. absurd h; once = λ p q h. absurd h }

module _ (m : Meaning) where
  abbrev pub All : Config m → Type 0
  All c = (Numbers m c × Units m c) × Facts m c

  client_starts : (h : Header) (k j : ℕ) → Asks [] (client_id k) (new_client m h j).next (reserved m (new_client m h j))
  unfolding new_client
  client_starts h k j = asks_start (client_id k) 1

  seqr_starts : (h : Header) (s j : ℕ) → Asks [] (seqr_id s) (new_seqr j h.limit (first_layout h)).rids (seqr_asks (new_seqr j h.limit (first_layout h)))
  unfolding new_seqr
  seqr_starts h s j = asks_start (seqr_id s) 1

  start_numbers : (h : Header) → Numbers m (config m (start m h))
  unfolding start
  start_numbers h = record {
    clients = λ k. at_map (new_client m h) (numbers h.clients 0) k (new_client m h k) (λ (x : Client m). Asks [] (client_id k) x.next (reserved m x)) (λ j. client_starts h k j) (client_starts h k k);
    seqrs = λ s. at_map (λ n. new_seqr n h.limit (first_layout h)) (numbers h.seqs 0) s (new_seqr s h.limit (first_layout h)) (λ (x : SeqrState). Asks [] (seqr_id s) x.rids (seqr_asks x)) (λ j. seqr_starts h s j) (seqr_starts h s s);
    units = λ p x. absurd x;
    layouts = λ p x. absurd x;
  }

  start_units : (h : Header) → Units m (config m (start m h))
  unfolding start
  start_units h = record {
    right = λ u. at_replicate h.units new_unit u new_unit (λ s. UnitRight s) right_new right_new;
    answered = λ u a x. absurd x;
  }

  start_facts : (h : Header) → Facts m (config m (start m h))
  unfolding start
  start_facts h = record { once = λ u k l s. absurd s.asked; sealed = λ u e n k s. absurd s.answered }

  pub base_of : (c : Config m) → Numbers m c × Units m c → Base m c
  base_of c a = record { numbers = numbers_once m c a.0; units = a.1 }

  pub all_keeps : Keeps m All
  all_keeps = keeps_above m (λ c. Numbers m c × Units m c) (Facts m)
      (keeps_above m (Numbers m) (Units m) (numbers_keep m) (λ c a b. cases_map m c (Units m) (λ d. Numbers m d → Units m d) (λ d x y. x) (units_keep m c b)))
      (λ c a f. cases_map m c (λ d. Base m d → Facts m d) (λ d. Numbers m d × Units m d → Facts m d) (λ d g x. g (base_of d x)) (facts_keep m c (base_of c a) f))

  pub start_all : (h : Header) → All (config m (start m h))
  start_all h = ((start_numbers h, start_units h), start_facts h)

  pub all_hold : (h : Header) (xs : Moves m) → All (config m (after m h xs))
  all_hold h xs = run_keeps m All all_keeps xs (start m h) (start_all h)

  pub known : (h : Header) (xs : Moves m) → Base m (config m (after m h xs))
  known h xs = base_of _ (all_hold h xs).0

-- The laws.

pub tells_of : (ps : List Packet) (u : ℕ) (k : Claim) → Told ps u k → Tells ps u k
tells_of ps u k t = record {
  ask = t.ask;
  answer = t.answer;
  asked = has_contained ps t.ask t.asked;
  answered = has_contained ps t.answer t.answered;
  to_unit = t.to_unit;
  from_unit = t.from_unit;
  back = t.back;
  number = t.number;
  tells = t.tells;
}

pub seals_of : (ps : List Packet) (u e h : ℕ) → SealedBy ps u e h → Seals ps u e h
seals_of ps u e h s = record { answer = s.answer; answered = has_contained ps s.answer s.answered; from_unit = s.from_unit; is = s.is }

module _ (m : Meaning) where
  numbers_unique : (h : Header) (xs : Moves m) → NumbersUnique m (after m h xs)
  numbers_unique h xs p q s t r r' f to rid = (known m h xs).numbers.same p q (has_contained _ p s) (has_contained _ q t) r r' f to rid

  is_so : (h : Header) (xs : Moves m) → ToldIsSo m (after m h xs)
  is_so h xs u k t = let a = told_holds m _ u k (known m h xs) (tells_of _ u k t) in record { epoch = a.epoch; high = a.high; cell = a.cell }

  once : (h : Header) (xs : Moves m) → ToldOnce m (after m h xs)
  once h xs u k l s t same = (all_hold m h xs).1.once u k l (tells_of _ u k s) (tells_of _ u l t) same

  bound : (h : Header) (xs : Moves m) → SealsBound m (after m h xs)
  bound h xs u e high k s t less = (all_hold m h xs).1.sealed u e high k (seals_of _ u e high s) (tells_of _ u k t) less

  pub numbers_are_unique : Always m (NumbersUnique m)
  numbers_are_unique = always m (NumbersUnique m) numbers_unique

  pub told_is_so : Always m (ToldIsSo m)
  told_is_so = always m (ToldIsSo m) is_so

  pub told_once : Always m (ToldOnce m)
  told_once = always m (ToldOnce m) once

  pub seals_bound : Always m (SealsBound m)
  seals_bound = always m (SealsBound m) bound
