-- Over a run: what each client has in hand to append comes from an end of its walks.
use Rattle.std.proofs.Common.{◌≡◌, ℕ, ◌<◌, [], ◌∷◌, ◌++◌, refl, sym, ◌∙◌, subst, inl, inr, arith, Some}
use Rattle.tg_base.specs.Clusters.{Header}
use Rattle.tg_kind.specs.Meaning.{Meaning}
use Rattle.tg_model.specs.Kinds.{EventOf}
use Rattle.tg_protocol.specs.Words.{numbers}
use Rattle.tg_protocol.specs.Clients.{Client, new_client}
use Rattle.tg_protocol.specs.ClientSteps.{ClientTurn}
use Rattle.tg_protocol.specs.Walked.{Walked, walked_in}
use Rattle.tg_protocol.specs.Worlds.{World, start, client, happens}
use Rattle.tg_protocol.specs.Runs.{Move, Moves, Next as Counts, Takes, LawfulCommand, Reaches, run}
use Rattle.tg_protocol.specs.Chosen.{IsDecided}
use Rattle.tg_law_layouts.specs.Moves.After.{after}
use Rattle.tg_law_layouts.proofs.Moves.Lists.{at_map}
use Rattle.tg_law_layouts.proofs.Moves.Moves.{AllGive, Gives}
use Rattle.tg_law_layouts.proofs.Layouts.Deciding.{layouts_are_known}
use Rattle.tg_law_walks.proofs.Drafts.Written.{then_next, then_takes, give_right}
use Rattle.tg_law_walks.proofs.Once.Along.{on_moves}
use Rattle.tg_law_walks.proofs.Once.Reached.{give, reach_at}
use Rattle.tg_law_headline.proofs.Origins.Drafts.{ClientFits, client_on}
use Rattle.tg_law_headline.proofs.Origins.Steps.{command_in, deliver_in, tick_in}
use Rattle.tg_law_headline.proofs.Origins.Turning.{Input, Commanded, Handed, Ticked, Turns, Makes, Rests, Turned, makes}
use Rattle.tg_law_headline.specs.Leaves.Passed.{Ended}
use Rattle.tg_law_headline.proofs.Leaves.Passing.{ended_on}

module _ (m : Meaning) (h : Header) where
  abbrev pub Fits : Moves m → ℕ → Client m → Type 0
  Fits xs k c = ClientFits m (Ended m h xs k) c

  abbrev pub AllFit : Moves m → Type 0
  AllFit xs = (k : ℕ) → Fits xs k (client m (after m h xs) k)

module _ (m : Meaning) (h : Header) (zs : Moves m) (reach : Reaches m h zs (after m h zs)) where
  -- A step.
  module _ (xs : Moves m) (e : EventOf m) (rest : Moves m) (split : zs ≡ xs ++ Takes e ∷ rest) (fits : AllFit m h xs) where
    abbrev w : World m
    w = after m h xs

    abbrev then : Moves m
    then = xs ++ Takes e ∷ []

    some : (k : ℕ) → 0 < (client m (after m h xs) k).stand.epoch
    some k = by ((layouts_are_known m h xs (after m h xs) (reach_at m h zs reach xs (Takes e ∷ rest) split)).clients k)
      where
        by : IsDecided m (after m h xs) (client m (after m h xs) k).stand.epoch (client m (after m h xs) k).stand → 0 < (client m (after m h xs) k).stand.epoch
        by (inl a) = let n = a.0 in omega (arith, n)
        by (inr a) = let n = a.0 in omega (arith, n)

    lawful : Gives m (LawfulCommand m) e
    lawful = (give_right m xs (Takes e ∷ rest) (subst (λ (ms : Moves m). AllGive m (LawfulCommand m) ms) split (give m h zs reach))).0

    still : (k : ℕ) → Fits m h (xs ++ Takes e ∷ []) k (client m (after m h xs) k)
    still k = client_on m (Ended m h xs k) (Ended m h (xs ++ Takes e ∷ []) k) (λ y a. ended_on m h xs (Takes e ∷ []) k y a) (client m (after m h xs) k) (fits k)

    came : (k : ℕ) (y : Walked m) → walked_in m (after m h xs) e k ≡ Some y → Ended m h (xs ++ Takes e ∷ []) k y
    came k y is = record { before = xs; event = e; after = []; split = refl; walked = is }

    turned : (n : ℕ) (t : ClientTurn m) → Input m (after m h xs) e n t → Fits m h (xs ++ Takes e ∷ []) n t.now
    turned n t (Commanded x is) = command_in m (Ended m h (xs ++ Takes e ∷ []) n) (client m (after m h xs) n) x (subst (λ (d : EventOf m). Gives m (LawfulCommand m) d) is lawful) (still n)
    turned n t (Handed p is) = deliver_in m (Ended m h (xs ++ Takes e ∷ []) n) (client m (after m h xs) n) p.from p.rid p.msg (still n) (some n) (λ y a. came n y (is ∙ a))
    turned n t Ticked = tick_in m (Ended m h (xs ++ Takes e ∷ []) n) (client m (after m h xs) n) (still n)

    now : (k : ℕ) → Fits m h (xs ++ Takes e ∷ []) k (client m (happens m (after m h xs) e) k)
    now k = by (makes m (after m h xs) e)
      where
        one : (n : ℕ) (t : ClientTurn m) → Fits m h (xs ++ Takes e ∷ []) n t.now → Turns m (after m h xs) (happens m (after m h xs) e) n t k → Fits m h (xs ++ Takes e ∷ []) k (client m (happens m (after m h xs) e) k)
        one n t f (inl a) = subst (Fits m h (xs ++ Takes e ∷ []) k) (sym a.1) (subst (λ (j : ℕ). Fits m h (xs ++ Takes e ∷ []) j t.now) (sym a.0) f)
        one n t f (inr a) = subst (Fits m h (xs ++ Takes e ∷ []) k) (sym a) (still k)

        by : Makes m (after m h xs) e (happens m (after m h xs) e) → Fits m h (xs ++ Takes e ∷ []) k (client m (happens m (after m h xs) e) k)
        by (Rests c) = subst (Fits m h (xs ++ Takes e ∷ []) k) (sym (c k)) (still k)
        by (Turned n t i f) = one n t (turned n t i) (f k)

    taken : AllFit m h (xs ++ Takes e ∷ [])
    taken = subst (λ (u : World m). (k : ℕ) → Fits m h (xs ++ Takes e ∷ []) k (client m u k)) (sym (then_takes m h xs e)) now

  counted : (xs : Moves m) → AllFit m h xs → AllFit m h (xs ++ Counts ∷ [])
  counted xs fits = subst (λ (u : World m). (k : ℕ) → Fits m h (xs ++ Counts ∷ []) k (client m u k)) (sym (then_next m h xs))
      (λ k. client_on m (Ended m h xs k) (Ended m h (xs ++ Counts ∷ []) k) (λ y a. ended_on m h xs (Counts ∷ []) k y a) (client m (after m h xs) k) (fits k))

  on_move : (xs : Moves m) (x : Move m) (rest : Moves m) → zs ≡ xs ++ x ∷ rest → AllFit m h xs → AllFit m h (xs ++ x ∷ [])
  on_move xs Counts rest e f = counted xs f
  on_move xs (Takes x) rest e f = taken xs x rest e f

  new_fits : (k j : ℕ) → Fits m h [] k (new_client m h j)
  unfolding new_client
  new_fits k j = (tt, tt)

  start_fits : AllFit m h []
  unfolding run start
  start_fits k = at_map (new_client m h) (numbers h.clients 0) k (new_client m h k) (λ (x : Client m). Fits m h [] k x) (new_fits k) (new_fits k k)

  -- in each world through which the run came
  pub fits_at : (xs ys : Moves m) → zs ≡ xs ++ ys → AllFit m h xs
  fits_at xs ys split = on_moves m h zs reach (AllFit m h) on_move [] xs ys split start_fits
