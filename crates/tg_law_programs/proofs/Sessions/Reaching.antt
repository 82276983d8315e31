-- The run of the steps of lawful sessions is one of lawful events, and not too long.
use Rattle.std.proofs.Common.{◌≡◌, ◌∙◌, ◌+◌, ◌*◌, ◌==◌, ◌<◌, ◌≤◌, ℕ, zero, suc, Bool, true, false, List, [], ◌∷◌, ◌++◌, length, refl, sym, ap, subst, arith}
use Rattle.std.specs.Prelude.{nat_lt, Contains}
use Rattle.std.specs.List.{slice_index_or}
use Rattle.std.proofs.lemmas.Bool.{ltb-true}
use Rattle.std.proofs.lemmas.Bool.Decides.{nat_tests}
use Rattle.tg_base.specs.Clusters.{Header, IsHeader}
use Rattle.tg_base.specs.Orders.{node_eq}
use Rattle.tg_base.specs.declared.ids.NodeId.{NodeId}
use Rattle.tg_base.specs.declared.ids.Role.{Role}
use Rattle.tg_base.specs.declared.ids.Role.TheVariants as role
use Rattle.tg_kind.specs.Meaning.{Meaning}
use Rattle.tg_model.specs.Kinds.{EventOf}
use Rattle.tg_protocol.specs.Worlds.{World, start, happens}
use Rattle.tg_protocol.specs.Runs.{Move, LawfulEvent, LawfulMove, IsDeclared, declared_of, most_steps}
use Rattle.tg_protocol.specs.Runs as runs
use Rattle.tg_node_state.specs.Nodes.{InputOf}
use Rattle.tg_node_state.specs.declared.input.Input.TheVariants as input
use Rattle.tg_law_walks.proofs.Drafts.Clients.{happens_steps}
use Rattle.tg_law_programs.specs.Sessions.Sessions.{Step, session, count_in, declares, MayTake, GoesOn, IsEventOf, AreEventsOf, run}
use Rattle.tg_law_programs.specs.Sessions.Holding.{LawfulInput, moves_of, SessionsReach}
use Rattle.tg_law_programs.proofs.Sessions.Orders.{own_first, other_first, sessions_make_a_run}

itself : (n : NodeId) → node_eq n n ≡ true
unfolding node_eq
itself n = grind arith

module _ (m : Meaning) where
  -- ---- as many steps as the sessions of all nodes have

  -- the steps of the nodes of a role below a number
  unfoldable in_role : Role → ℕ → List (Step m) → ℕ
  in_role r zero steps = 0
  in_role r (suc c) steps = length (session m (record { role = r; num = c }) steps) + in_role r c steps

  abbrev in_all : Header → List (Step m) → ℕ
  in_all h steps = in_role role.Unit h.units steps + in_role role.Layout h.layouts steps + in_role role.Seqr h.seqs steps + in_role role.Client h.clients steps

  session_grows : (n : NodeId) (s : Step m) (rest : List (Step m)) → length (session m n rest) ≤ length (session m n (s ∷ rest))
  session_grows n s rest = by (node_eq n s.node) refl
    where
      by : (b : Bool) → node_eq n s.node ≡ b → length (session m n rest) ≤ length (session m n (s ∷ rest))
      by true is = let e = ap length (own_first m n s rest is) in omega (arith, e)
      by false is = let e = ap length (other_first m n s rest is) in omega (arith, e)

  role_grows : (r : Role) (c : ℕ) (s : Step m) (rest : List (Step m)) → in_role r c rest ≤ in_role r c (s ∷ rest)
  unfolding in_role
  role_grows r zero s rest = omega arith
  role_grows r (suc c) s rest =
      let a = session_grows (record { role = r; num = c }) s rest in
      let b = role_grows r c s rest in
      omega (arith, a, b)

  abbrev step_of : Role → ℕ → InputOf m → Step m
  step_of r k i = record { node = record { role = r; num = k }; input = i }

  -- a step is in the session of its node
  own_counts : (r : Role) (c k : ℕ) (i : InputOf m) (rest : List (Step m)) → k < c → in_role r c rest + 1 ≤ in_role r c (step_of r k i ∷ rest)
  unfolding in_role
  own_counts r zero k i rest less = absurd (omega (arith, less))
  own_counts r (suc c) k i rest less = by (k == c) refl (λ below. own_counts r c k i rest below)
    where
      by : (b : Bool) → (k == c) ≡ b → (k < c → in_role r c rest + 1 ≤ in_role r c (step_of r k i ∷ rest))
          → length (session m (record { role = r; num = c }) rest) + in_role r c rest + 1
          ≤ length (session m (record { role = r; num = c }) (step_of r k i ∷ rest)) + in_role r c (step_of r k i ∷ rest)
      by true is before =
          let same : k ≡ c = grind (arith, nat_tests) in
          let own : node_eq (record { role = r; num = c }) (record { role = r; num = k }) ≡ true =
          subst (λ (j : ℕ). node_eq (record { role = r; num = j }) (record { role = r; num = k }) ≡ true) same (itself (record { role = r; num = k })) in
          let a = ap length (own_first m (record { role = r; num = c }) (step_of r k i) rest own) in
          let b = role_grows r c (step_of r k i) rest in
          omega (arith, a, b)
      by false is before =
          let below : k < c = grind (arith, nat_tests) in
          let a = before below in
          let b = session_grows (record { role = r; num = c }) (step_of r k i) rest in
          omega (arith, a, b)

  counts : (h : Header) (r : Role) (k : ℕ) (i : InputOf m) (rest : List (Step m)) → k < count_in h r → in_all h rest + 1 ≤ in_all h (step_of r k i ∷ rest)
  counts h role.Unit k i rest less =
      let a = own_counts role.Unit h.units k i rest less in
      let b = role_grows role.Layout h.layouts (step_of role.Unit k i) rest in
      let c = role_grows role.Seqr h.seqs (step_of role.Unit k i) rest in
      let d = role_grows role.Client h.clients (step_of role.Unit k i) rest in
      omega (arith, a, b, c, d)
  counts h role.Layout k i rest less =
      let a = role_grows role.Unit h.units (step_of role.Layout k i) rest in
      let b = own_counts role.Layout h.layouts k i rest less in
      let c = role_grows role.Seqr h.seqs (step_of role.Layout k i) rest in
      let d = role_grows role.Client h.clients (step_of role.Layout k i) rest in
      omega (arith, a, b, c, d)
  counts h role.Seqr k i rest less =
      let a = role_grows role.Unit h.units (step_of role.Seqr k i) rest in
      let b = role_grows role.Layout h.layouts (step_of role.Seqr k i) rest in
      let c = own_counts role.Seqr h.seqs k i rest less in
      let d = role_grows role.Client h.clients (step_of role.Seqr k i) rest in
      omega (arith, a, b, c, d)
  counts h role.Client k i rest less =
      let a = role_grows role.Unit h.units (step_of role.Client k i) rest in
      let b = role_grows role.Layout h.layouts (step_of role.Client k i) rest in
      let c = role_grows role.Seqr h.seqs (step_of role.Client k i) rest in
      let d = own_counts role.Client h.clients k i rest less in
      omega (arith, a, b, c, d)

  steps_in_all : (h : Header) (before rest : List (Step m)) → GoesOn m h before rest → length rest ≤ in_all h rest
  steps_in_all h before [] goes = omega arith
  steps_in_all h before (s ∷ rest) goes =
      let a = steps_in_all h (before ++ s ∷ []) rest goes.1 in
      let b = counts h s.node.role s.node.num s.input rest (ltb-true _ _ goes.0.0) in
      omega (arith, a, b)

  -- ---- few nodes, each with few steps

  few_in_role : (r : Role) (c : ℕ) (steps : List (Step m)) → ((n : NodeId) → length (session m n steps) ≤ 200000) → in_role r c steps ≤ c * 200000
  unfolding in_role
  few_in_role r zero steps few = omega arith
  few_in_role r (suc c) steps few =
      let a = few (record { role = r; num = c }) in
      let b = few_in_role r c steps few in
      omega (arith, a, b)

  few_units : (h : Header) → IsHeader h → h.units ≤ 64
  few_units h e = grind arith

  few_layouts : (h : Header) → IsHeader h → h.layouts ≤ 7
  few_layouts h e = grind arith

  few_seqrs : (h : Header) → IsHeader h → h.seqs ≤ 16
  few_seqrs h e = grind arith

  few_clients : (h : Header) → IsHeader h → h.clients ≤ 32
  few_clients h e = grind arith

  few_in_all : (h : Header) (steps : List (Step m)) → IsHeader h → ((n : NodeId) → length (session m n steps) ≤ 200000) → in_all h steps ≤ most_steps
  few_in_all h steps header few =
      let a = few_in_role role.Unit h.units steps few in
      let b = few_in_role role.Layout h.layouts steps few in
      let c = few_in_role role.Seqr h.seqs steps few in
      let d = few_in_role role.Client h.clients steps few in
      let i = few_units h header in
      let j = few_layouts h header in
      let k = few_seqrs h header in
      let l = few_clients h header in
      omega (arith, a, b, c, d, i, j, k, l)

  -- ---- as many steps of the world

  as_many : (w : World m) (steps : List (Step m)) (es : List (EventOf m)) → AreEventsOf m w steps es → length es ≡ length steps
  as_many w [] [] f = refl
  as_many w [] (e ∷ es) f = absurd f
  as_many w (s ∷ ss) [] f = absurd f
  as_many w (s ∷ ss) (e ∷ es) f = ap suc (as_many (happens m w e) ss es f.1)

  run_steps : (es : List (EventOf m)) (w : World m) → (run m w es).steps ≡ w.steps + length es
  unfolding run
  run_steps [] w = omega arith
  run_steps (e ∷ es) w =
      let a = run_steps es (happens m w e) in
      let b = happens_steps m w e in
      omega (arith, a, b)

  same_run : (es : List (EventOf m)) (w : World m) → run m w es ≡ runs.run m (moves_of m es) w
  unfolding run runs.run
  same_run [] w = refl
  same_run (e ∷ es) w = same_run es (happens m w e)

  -- ---- the events are lawful

  abbrev AreLawful : List (Step m) → Type 0
  AreLawful [] = Unit {0}
  AreLawful (s ∷ ss) = LawfulInput m s.input × AreLawful ss

  contained : {X : Type 0} (x y : X) (xs : List X) → Contains xs y → Contains (x ∷ xs) y
  contained x y xs c = let less = c.1 in (suc c.0, omega (arith, less), c.2)

  own_contains : (s : Step m) (ss : List (Step m)) → Contains (session m s.node (s ∷ ss)) s.input
  own_contains s ss =
      subst (λ (is : List (InputOf m)). Contains is s.input) (sym (own_first m s.node s ss (itself s.node))) (0, omega arith, refl)

  later_contains : (n : NodeId) (s : Step m) (ss : List (Step m)) (i : InputOf m) → Contains (session m n ss) i → Contains (session m n (s ∷ ss)) i
  later_contains n s ss i c = by (node_eq n s.node) refl
    where
      by : (b : Bool) → node_eq n s.node ≡ b → Contains (session m n (s ∷ ss)) i
      by true is = subst (λ (is : List (InputOf m)). Contains is i) (sym (own_first m n s ss is)) (contained s.input i (session m n ss) c)
      by false is = subst (λ (is : List (InputOf m)). Contains is i) (sym (other_first m n s ss is)) c

  all_lawful : (steps : List (Step m)) → ((n : NodeId) (i : InputOf m) → Contains (session m n steps) i → LawfulInput m i) → AreLawful steps
  all_lawful [] each = tt
  all_lawful (s ∷ ss) each = (each s.node s.input (own_contains s ss), all_lawful ss (λ n i c. each n i (later_contains n s ss i c)))

  same_count : (h : Header) (r : Role) → count_in h r ≡ declared_of h r
  same_count h role.Unit = refl
  same_count h role.Layout = refl
  same_count h role.Seqr = refl
  same_count h role.Client = refl

  is_declared : (h : Header) (n : NodeId) → declares h n ≡ true → IsDeclared h n
  is_declared h n declared = ltb-true _ _ (ap (nat_lt n.num) (sym (same_count h n.role)) ∙ declared)

  event_lawful : (h : Header) (before : List (Step m)) (w : World m) (n : NodeId) (i : InputOf m) (e : EventOf m)
      → declares h n ≡ true → MayTake m h before n i → LawfulInput m i → IsEventOf m w n i e → LawfulEvent m h e
  event_lawful h before w n input.Tick e declared may lawful is = subst (LawfulEvent m h) (sym is) (is_declared h n declared)
  event_lawful h before w n (input.Packet p) e declared may lawful is = subst (LawfulEvent m h) (sym is.1) tt
  event_lawful h before w n (input.Command x) e declared may lawful is =
      let client : nat_lt n.num h.clients ≡ true = ap (λ (r : Role). nat_lt n.num (count_in h r)) (sym may) ∙ declared in
      subst (LawfulEvent m h) (sym is) (ltb-true _ _ client, lawful)

  moves_lawful : (h : Header) (before rest : List (Step m)) (w : World m) (es : List (EventOf m)) → GoesOn m h before rest → AreLawful rest → AreEventsOf m w rest es
      → (k : ℕ) (x : Move m) → k < length (moves_of m es) → slice_index_or (moves_of m es) k x ≡ x → LawfulMove m h x
  moves_lawful h before [] w [] goes lawful follows k x less is = absurd (omega (arith, less))
  moves_lawful h before [] w (e ∷ es) goes lawful follows k x less is = absurd follows
  moves_lawful h before (s ∷ ss) w [] goes lawful follows k x less is = absurd follows
  moves_lawful h before (s ∷ ss) w (e ∷ es) goes lawful follows zero x less is =
      subst (LawfulMove m h) is (event_lawful h before w s.node s.input e goes.0.0 goes.0.1 lawful.0 follows.0)
  moves_lawful h before (s ∷ ss) w (e ∷ es) goes lawful follows (suc k) x less is =
      moves_lawful h (before ++ s ∷ []) ss (happens m w e) es goes.1 lawful.1 follows.1 k x (omega (arith, less)) is

  pub sessions_reach : SessionsReach m
  unfolding start
  sessions_reach h sessions steps header are kept order =
      let r = sessions_make_a_run m h sessions steps kept order in
      let lawful : AreLawful steps = all_lawful steps (λ n i c. are.lawful n i (subst (λ (is : List (InputOf m)). Contains is i) (kept n) c)) in
      let a = run_steps r.0 (start m h) in
      let b = as_many (start m h) steps r.0 r.1 in
      let c = steps_in_all h [] steps order in
      let d = few_in_all h steps header (λ n. subst (λ (is : List (InputOf m)). length is ≤ 200000) (sym (kept n)) (are.few n)) in
      record {
        events = r.0;
        follows = r.1;
        shows = r.2;
        keeps = r.3;
        reaches = record {
          header = header;
          goes = record {
            lawful = λ x i. moves_lawful h [] steps (start m h) r.0 order lawful r.1 i.0 x i.1 i.2;
            is = same_run r.0 (start m h);
            few = omega (arith, a, b, c, d);
          };
        };
      }
