-- Along a run: of two pages that a client has put for one kind of body and number one was given up, or they are for one
-- position.
use Rattle.std.proofs.Common.{◌≡◌, ◌⊎◌, ℕ, ◌<◌, [], ◌∷◌, ◌++◌, length, map, refl, sym, ap, ◌∙◌, subst, inl, inr, append-nil}
use Rattle.std.specs.Prelude.{slice_index_or}
use Rattle.tg_base.specs.Clusters.{Header}
use Rattle.tg_base.specs.declared.ids.NodeId.{NodeId}
use Rattle.tg_base.specs.declared.ids.Role.TheVariants as role
use Rattle.tg_base.specs.declared.packet.Packet.{Packet}
use Rattle.tg_kind.specs.Meaning.{Meaning}
use Rattle.tg_protocol.specs.Words.{client_id, numbers}
use Rattle.tg_protocol.specs.Appending.{Append}
use Rattle.tg_protocol.specs.Clients.{Client, new_client}
use Rattle.tg_protocol.specs.ClientSteps.{ClientTurn}
use Rattle.tg_protocol.specs.Worlds.{World, start, packet_of}
use Rattle.tg_protocol.specs.Runs.{Move, Moves, Next as Counts, Takes, LawfulCommand, Reaches, run}
use Rattle.tg_law_layouts.specs.Moves.After.{after}
use Rattle.tg_law_layouts.specs.Moves.Configs.{Config, config, client_in}
use Rattle.tg_law_layouts.proofs.Moves.Growth.{IsCalm, unit_quiet, layout_quiet, seqr_quiet}
use Rattle.tg_law_layouts.proofs.Moves.Lists.{at_set, at_map}
use Rattle.tg_law_layouts.proofs.Moves.Members.{Has, has_either, has_map}
use Rattle.tg_law_layouts.proofs.Moves.Moves.{AllGive, ClientInput, Given, CasesOf, client_turn, step_cases_of}
use Rattle.tg_law_walks.proofs.Drafts.Became.{no_some, Holds}
use Rattle.tg_law_walks.proofs.Drafts.Written.{Written, cases, start_written, shift, then_next, then_takes, give_right, regroup}
use Rattle.tg_law_walks.proofs.Once.Reached.{header, give, short}
use Rattle.tg_law_walks.proofs.Once.Spending.{SpentOf, fewer, spent_turned}

module _ (m : Meaning) (h : Header) (zs : Moves m) (reach : Reaches m h zs (after m h zs)) where
  abbrev w : World m
  w = after m h zs

  pub record Spent (c : Config m) : Type 0 where
    pub of : (k : ℕ) → SpentOf m w c.packets k (client_in m c k)

  abbrev pub IsWritten : Config m → Type 0
  IsWritten = Written m h zs (header m h zs reach) (give m h zs reach) (short m h zs reach)

  calm : (c : Config m) → Spent c → IsCalm m role.Client c Spent
  calm c s d q = record {
    of = λ k. subst (SpentOf m w d.packets k) (λ i. slice_index_or (sym (q.clients refl) i) k (new_client m (sym q.cluster i) k))
        (fewer m w c.packets d.packets k (client_in m c k) (λ x g from. q.old x g (ap (λ (n : NodeId). n.role) from)) (s.of k));
  }

  module _ (xs ys : Moves m) (split : zs ≡ xs ++ ys) (t : IsWritten (config m (after m h xs))) (s : Spent (config m (after m h xs))) where
    abbrev c : Config m
    c = config m (after m h xs)

    own : (k : ℕ) (u : ClientTurn m) → (i : ClientInput m c k u) → Given m (LawfulCommand m) c k u i → k < length c.clients → Spent (client_turn m c k u)
    own k u i lawful less = record {
      of = at_set c.clients k u.now (new_client m c.cluster) (λ j x. SpentOf m w (c.packets ++ map (packet_of m (client_id k)) u.sends) j x) less
          (spent_turned m h zs reach xs ys split t k (s.of k) u i lawful less)
          (λ j other. fewer m w c.packets (c.packets ++ map (packet_of m (client_id k)) u.sends) j (client_in m c j) (λ x g from. by j other x from (has_either c.packets (map (packet_of m (client_id k)) u.sends) x g)) (s.of j));
    }
      where
        by : (j : ℕ) → (j ≡ k → ⊥) → (x : Packet) → x.from ≡ client_id j → Has c.packets x ⊎ Has (map (packet_of m (client_id k)) u.sends) x → Has c.packets x
        by j other x from (inl g) = g
        by j other x from (inr g) = let o = has_map (packet_of m (client_id k)) u.sends x g in absurd (other (ap (λ (n : NodeId). n.num) (sym from ∙ ap (λ (y : Packet). y.from) o.is)))

    spent_cases : CasesOf m (LawfulCommand m) c Spent
    spent_cases = record {
      idle = s;
      unit = λ u p a less. calm c s _ (unit_quiet m role.Client (λ e. cc) c u p a less);
      layout = λ l p a less. calm c s _ (layout_quiet m role.Client (λ e. cc) c l p _ a);
      seqr = λ r u i less. calm c s _ (seqr_quiet m role.Client (λ e. cc) c r u);
      client = own;
    }

  abbrev Both : Moves m → Type 0
  Both xs = IsWritten (config m (after m h xs)) × Spent (config m (after m h xs))

  on_move : (xs : Moves m) (x : Move m) (rest : Moves m) → zs ≡ xs ++ x ∷ rest → Both xs → Both (xs ++ x ∷ [])
  on_move xs Counts rest e b = (
    subst (λ (v : World m). IsWritten (config m v)) (sym (then_next m h xs)) (record { hands = b.0.hands; sent = b.0.sent }),
    subst (λ (v : World m). Spent (config m v)) (sym (then_next m h xs)) (record { of = b.1.of }),
  )
  on_move xs (Takes x) rest e b =
      let given = (give_right m xs (Takes x ∷ rest) (subst (λ (ms : Moves m). AllGive m (LawfulCommand m) ms) e (give m h zs reach))).0 in (
        subst (λ (v : World m). IsWritten (config m v)) (sym (then_takes m h xs x))
            (step_cases_of m (LawfulCommand m) (after m h xs) IsWritten (cases m h zs (header m h zs reach) (give m h zs reach) (short m h zs reach) xs (Takes x ∷ rest) e b.0) x given),
        subst (λ (v : World m). Spent (config m v)) (sym (then_takes m h xs x)) (step_cases_of m (LawfulCommand m) (after m h xs) Spent (spent_cases xs (Takes x ∷ rest) e b.0 b.1) x given),
      )

  -- what each move keeps holds in each world of the run
  pub on_moves : (P : Moves m → Type 0) → ((xs : Moves m) (x : Move m) (rest : Moves m) → zs ≡ xs ++ x ∷ rest → P xs → P (xs ++ x ∷ [])) → (xs ys rest : Moves m) → zs ≡ xs ++ (ys ++ rest) → P xs → P (xs ++ ys)
  on_moves P f xs [] rest e b = subst P (sym (append-nil xs)) b
  on_moves P f xs (x ∷ ys) rest e b =
      subst P (regroup m xs (x ∷ []) ys)
      (on_moves P f (xs ++ x ∷ []) ys rest (shift m h zs (header m h zs reach) (give m h zs reach) (short m h zs reach) xs x (ys ++ rest) e) (f xs x (ys ++ rest) e b))

  none_holds : {X : Type 0} (k : ℕ) (b : Append) → Holds m (new_client m h k) b → X
  unfolding new_client
  none_holds k b o = no_some o.work o.has

  new_spent : (k j : ℕ) → SpentOf m w [] k (new_client m h j)
  new_spent k j = record {
    pairs = λ x. absurd x.sent;
    hands = λ a o. none_holds j a o;
    tokens = λ a o. none_holds j a o;
    drawn = λ a o. none_holds j a o;
    bounds = λ a o. none_holds j a o;
    unended = λ t is none x. absurd x.sent;
    below = λ x. absurd x.sent;
  }

  start_spent : Spent (config m (after m h []))
  unfolding run start
  start_spent = record { of = λ k. at_map (new_client m h) (numbers h.clients 0) k (new_client m h k) (λ (x : Client m). SpentOf m w [] k x) (new_spent k) (new_spent k k) }

  both_at : (xs ys : Moves m) → zs ≡ xs ++ ys → Both xs
  both_at xs ys split = on_moves Both on_move [] xs ys split (start_written m h zs (header m h zs reach) (give m h zs reach) (short m h zs reach), start_spent)

  -- in each world of the run
  pub written_at : (xs ys : Moves m) → zs ≡ xs ++ ys → IsWritten (config m (after m h xs))
  written_at xs ys split = (both_at xs ys split).0

  pub spent_at : (xs ys : Moves m) → zs ≡ xs ++ ys → Spent (config m (after m h xs))
  spent_at xs ys split = (both_at xs ys split).1

  pub spent : Spent (config m w)
  spent = spent_at zs [] (sym (append-nil zs))
