-- In each world of a run the append that a client has in hand has its shape.
use Rattle.std.proofs.Common.{◌≡◌, ℕ, ◌<◌, [], ◌∷◌, ◌++◌, length, refl, sym, subst, inl, inr, append-nil}
use Rattle.std.specs.Prelude.{slice_index_or}
use Rattle.tg_base.specs.Clusters.{Header}
use Rattle.tg_base.specs.Layouts.{Layout}
use Rattle.tg_base.specs.declared.ids.Role.TheVariants as role
use Rattle.tg_kind.specs.Meaning.{Meaning}
use Rattle.tg_protocol.specs.Words.{numbers}
use Rattle.tg_protocol.specs.Requests.{Next}
use Rattle.tg_protocol.specs.Replies.{reply}
use Rattle.tg_protocol.specs.Appending.{Append, AppendWork, Asking, Putting, Judging, AppendEnd}
use Rattle.tg_protocol.specs.Clients.{Client, new_client}
use Rattle.tg_protocol.specs.ClientSteps.{ClientTurn}
use Rattle.tg_protocol.specs.Worlds.{World, start}
use Rattle.tg_protocol.specs.Runs.{Move, Moves, Next as Counts, Takes, LawfulCommand, Reaches, run}
use Rattle.tg_law_layouts.specs.Moves.After.{after}
use Rattle.tg_law_layouts.specs.Moves.Configs.{Config, config, client_in}
use Rattle.tg_law_layouts.proofs.Moves.Growth.{IsCalm, unit_quiet, layout_quiet, seqr_quiet}
use Rattle.tg_law_layouts.proofs.Moves.Lists.{at_set, at_map}
use Rattle.tg_law_layouts.proofs.Moves.Moves.{AllGive, ClientInput, Given, CasesOf, client_turn, step_cases_of}
use Rattle.tg_law_walks.proofs.Drafts.Became.{no_some, NextIs, Holds, Became, Fresh, Same, Fed, Again, became}
use Rattle.tg_law_walks.proofs.Drafts.Clients.{State, few_in}
use Rattle.tg_law_walks.proofs.Drafts.Sound.{IsAsking}
use Rattle.tg_law_walks.proofs.Drafts.Written.{state_at, short_at, then_next, then_takes, give_right}
use Rattle.tg_law_walks.proofs.Once.Reached.{header, give, short}
use Rattle.tg_law_walks.proofs.Once.Along.{on_moves}
use Rattle.tg_law_finish.proofs.Finish.Shapes.{Shape, Next', append_keeps, append_again_keeps}

module _ (m : Meaning) where
  abbrev pub Shaped : Client m → Type 0
  Shaped c = (a : Append) → Holds m c a → Shape c.stand a.work

  asks_shape : (p : Layout) (w : AppendWork) → IsAsking m w → Shape p w
  asks_shape p (Asking r) k = tt
  asks_shape p (Putting j) k = absurd k
  asks_shape p (Judging j) k = absurd k

  next_shape : (p : Layout) (b : Append) (n : Next Append AppendEnd) → NextIs b n → Next' p n → Shape p b.work
  next_shape p b n (inl e) k = subst (Next' p) e k
  next_shape p b n (inr e) k = subst (Next' p) e k

  module _ (h : Header) (zs : Moves m) (reach : Reaches m h zs (after m h zs)) where
    record All (c : Config m) : Type 0 where
      of : (k : ℕ) → Shaped (client_in m c k)

    calm : (c : Config m) → All c → IsCalm m role.Client c All
    calm c s d q = record {
      of = λ k. subst Shaped (λ i. slice_index_or (sym (q.clients refl) i) k (new_client m (sym q.cluster i) k)) (s.of k);
    }

    module _ (xs ys : Moves m) (split : zs ≡ xs ++ ys) (s : All (config m (after m h xs))) where
      abbrev g : Config m
      g = config m (after m h xs)

      state : State m h (after m h xs)
      state = state_at m h zs (header m h zs reach) (give m h zs reach) (short m h zs reach) xs ys split

      turned : (k : ℕ) (u : ClientTurn m) → (i : ClientInput m g k u) → Given m (LawfulCommand m) g k u i → k < length g.clients → Shaped u.now
      turned k u i lawful less b o = by (became m g k u i lawful (few_in m h (header m h zs reach) (after m h xs) (short_at m h zs (header m h zs reach) (give m h zs reach) (short m h zs reach) xs ys split) state k less) (state.clients.sound k) b o)
        where
          by : Became m g k u.now b → Shape u.now.stand b.work
          by (Fresh none asks kind isnt) = asks_shape u.now.stand b.work asks
          by (Same old stand) = subst (λ (p : Layout). Shape p b.work) (sym stand) (s.of k b old)
          by (Fed a old x comes doing awaited is stand) = subst (λ (p : Layout). Shape p b.work) (sym stand)
              (next_shape (client_in m g k).stand b _ is (append_keeps (client_in m g k).stand a x.from.num (reply x.msg) (client_in m g k).next (s.of k a old)))
          by (Again a old x q comes is node later next stand) = subst (λ (p : Layout). Shape p b.work) (sym stand) (next_shape q b _ next (append_again_keeps q a (client_in m g k).next))

      own : (k : ℕ) (u : ClientTurn m) → (i : ClientInput m g k u) → Given m (LawfulCommand m) g k u i → k < length g.clients → All (client_turn m g k u)
      own k u i lawful less = record { of = at_set g.clients k u.now (new_client m g.cluster) (λ j x. Shaped x) less (turned k u i lawful less) (λ j other. s.of j) }

      cases : CasesOf m (LawfulCommand m) (config m (after m h xs)) All
      cases = record {
        idle = s;
        unit = λ u p a less. calm g s _ (unit_quiet m role.Client (λ e. cc) g u p a less);
        layout = λ l p a less. calm g s _ (layout_quiet m role.Client (λ e. cc) g l p _ a);
        seqr = λ r u i less. calm g s _ (seqr_quiet m role.Client (λ e. cc) g r u);
        client = own;
      }

    abbrev AllAt : Moves m → Type 0
    AllAt xs = All (config m (after m h xs))

    on_move : (xs : Moves m) (x : Move m) (rest : Moves m) → zs ≡ xs ++ x ∷ rest → AllAt xs → AllAt (xs ++ x ∷ [])
    on_move xs Counts rest e b = subst (λ (v : World m). All (config m v)) (sym (then_next m h xs)) (record { of = b.of })
    on_move xs (Takes x) rest e b =
        let given = (give_right m xs (Takes x ∷ rest) (subst (λ (ms : Moves m). AllGive m (LawfulCommand m) ms) e (give m h zs reach))).0 in
        subst (λ (v : World m). All (config m v)) (sym (then_takes m h xs x)) (step_cases_of m (LawfulCommand m) (after m h xs) All (cases xs (Takes x ∷ rest) e b) x given)

    none_holds : (k : ℕ) → Shaped (new_client m h k)
    unfolding new_client
    none_holds k b o = no_some o.work o.has

    start_all : AllAt []
    unfolding run start
    start_all = record { of = λ k. at_map (new_client m h) (numbers h.clients 0) k (new_client m h k) (λ (x : Client m). Shaped x) none_holds (none_holds k) }

    pub shaped_hold : (k : ℕ) → Shaped (client_in m (config m (after m h zs)) k)
    shaped_hold k = (on_moves m h zs reach AllAt on_move [] zs [] (sym (append-nil zs)) start_all).of k
