-- What a sequencer has told it has issued up to; and a position that lies below a later tail of the same epoch, and below
-- the start of each later one.
use Rattle.std.proofs.Common.{◌≡◌, ◌⊎◌, ℕ, ◌<◌, ◌≤◌, List, length, map, true, refl, sym, ap, ◌∙◌, subst, inl, inr, arith, Some}
use Rattle.std.specs.Prelude.{slice_index_or, min}
use Rattle.tg_base.specs.Clusters.{Header}
use Rattle.tg_base.specs.declared.ids.NodeId.{NodeId}
use Rattle.tg_base.specs.declared.ids.Oid.{Oid}
use Rattle.tg_base.specs.declared.ids.Role.TheVariants as role
use Rattle.tg_base.specs.declared.marks.StreamLink.{StreamLink}
use Rattle.tg_base.specs.declared.packet.Out.{Out}
use Rattle.tg_base.specs.declared.packet.Packet.{Packet}
use Rattle.tg_kind.specs.Meaning.{Meaning}
use Rattle.tg_protocol.specs.Words.{seqr_id}
use Rattle.tg_protocol.specs.Layouts.{first_layout}
use Rattle.tg_protocol.specs.Sequencers.{SeqrState, SeqrTurn, new_seqr, seqr_tick}
use Rattle.tg_protocol.specs.Worlds.{start, packet_of}
use Rattle.tg_protocol.specs.Runs.{Moves}
use Rattle.tg_law_layouts.specs.Moves.After.{after}
use Rattle.tg_law_layouts.specs.Moves.Configs.{Config, config, seqr_in}
use Rattle.tg_law_layouts.specs.Moves.Telling.{is_request}
use Rattle.tg_law_layouts.proofs.Moves.Growth.{IsCalm, by_seqr}
use Rattle.tg_law_layouts.proofs.Moves.Lists.{at_set}
use Rattle.tg_law_layouts.proofs.Moves.Members.{Has, has_left, has_either, has_map}
use Rattle.tg_law_layouts.proofs.Moves.Moves.{Cases, Comes, SeqrInput, Hears, Ticks, seqr_turn, Keeps, cases_map, keeps_above, run_keeps}
use Rattle.tg_law_cells.proofs.Tokens.Going.{Went, Stays, Begins, Scans, Jumps, Issues}
use Rattle.tg_law_cells.proofs.Tokens.Issues.{Low, low_keeps, start_low, turned}
use Rattle.tg_law_walks.specs.Lists.Telling.{asks_links, tells_links}
use Rattle.tg_law_walks.proofs.Lists.Telling.{IsTold, step_told, tick_silent}

-- in an epoch a sequencer has issued up to a position, or it has left the epoch
abbrev pub Reached' : SeqrState → ℕ → ℕ → Type 0
Reached' s e t = (e < s.epoch) ⊎ ((s.epoch ≡ e) × (t ≤ s.next))

reached_on : (s t : SeqrState) (e p : ℕ) → Went s t → Reached' s e p → Reached' t e p
reached_on s t e p (Stays same n l) (inl less) = let a = same.epoch in inl (omega (arith, less, a))
reached_on s t e p (Stays same n l) (inr k) = let a = k.1 in inr (same.epoch ∙ k.0, omega (arith, n, a))
reached_on s t e p (Begins q less i j n l) (inl x) = inl (omega (arith, less, i, x))
reached_on s t e p (Begins q less i j n l) (inr k) = let a = k.0 in inl (omega (arith, less, i, a))
reached_on s t e p (Scans c same less n l) (inl x) = let a = same.epoch in inl (omega (arith, x, a))
reached_on s t e p (Scans c same less n l) (inr k) = let a = k.1 in inr (same.epoch ∙ k.0, omega (arith, n, a))
reached_on s t e p (Jumps b same less past n l) (inl x) = let a = same.epoch in inl (omega (arith, x, a))
reached_on s t e p (Jumps b same less past n l) (inr k) = let a = k.1 in inr (same.epoch ∙ k.0, subst (λ (y : ℕ). p ≤ y) (sym n) (least b s.proj.start s.next p a past less))
  where
    least : (b q n p : ℕ) → p ≤ n → n < b → n < q → p ≤ min b q
    least b q n p a x y = grind arith
reached_on s t e p (Issues os same le n l) (inl x) = let a = same.epoch in inl (omega (arith, x, a))
reached_on s t e p (Issues os same le n l) (inr k) = let a = k.1 in inr (same.epoch ∙ k.0, omega (arith, n, a))

module _ (m : Meaning) where
  abbrev pub SeqrReached : Config m → ℕ → ℕ → ℕ → Type 0
  SeqrReached c s e t = Reached' (seqr_in m c s) e t

  -- an answer that tells links, with its request: its sequencer has issued up to there
  pub record Answered (c : Config m) (s : ℕ) (a : Packet) (pos : ℕ) : Type 0 where
    pub ask : Packet
    pub has : Has c.packets ask
    pub to : ask.to ≡ a.from
    pub from : ask.from ≡ a.to
    pub rid : ask.rid ≡ a.rid
    pub request : is_request ask.msg ≡ true
    pub reached : (e : ℕ) (os : List Oid) → asks_links ask.msg ≡ Some (e, os) → SeqrReached c s e pos

  pub record Answers (c : Config m) : Type 0 where
    pub each : (s : ℕ) (a : Packet) (pos : ℕ) (ls : List StreamLink) → Has c.packets a → a.from ≡ seqr_id s → tells_links a.msg ≡ Some (pos, ls) → Answered c s a pos

  pub answered_on : (c d : Config m) (s : ℕ) (a : Packet) (pos : ℕ) → ((x : Packet) → Has c.packets x → Has d.packets x) → ((e t : ℕ) → SeqrReached c s e t → SeqrReached d s e t) → Answered c s a pos → Answered d s a pos
  answered_on c d s a pos up on k = record { ask = k.ask; has = up k.ask k.has; to = k.to; from = k.from; rid = k.rid; request = k.request; reached = λ e os i. on e pos (k.reached e os i) }

  -- What a sequencer's turn tells, to a packet that it hears.
  pub record Tells (c : Config m) (s : ℕ) (o : Out) (pos : ℕ) (ls : List StreamLink) : Type 0 where
    pub ask : Packet
    pub comes : Comes m c ask (seqr_id s)
    pub told : IsTold (seqr_in m c s) ask.from ask.rid ask.msg o pos ls

  pub turn_tells : (c : Config m) (s : ℕ) (t : SeqrTurn) → SeqrInput m c s t → (o : Out) (pos : ℕ) (ls : List StreamLink) → Has t.sends o → tells_links o.msg ≡ Some (pos, ls) → Tells c s o pos ls
  unfolding seqr_tick
  turn_tells c s t (Hears p comes) o pos ls i e = record { ask = p; comes = comes; told = step_told (seqr_in m c s) p.from p.rid p.msg o pos ls i e }
  turn_tells c s t Ticks o pos ls i e = absurd (tick_silent (seqr_in m c s) o pos ls i e)

  -- each turn reaches on
  pub turn_reaches : (c : Config m) → Low m c → (s : ℕ) (t : SeqrTurn) → SeqrInput m c s t → (e p : ℕ) → Reached' (seqr_in m c s) e p → Reached' t.now e p
  turn_reaches c low s t i e p k = reached_on (seqr_in m c s) t.now e p (turned m c s t (low.1.scans s) i).went k

  pub seqrs_reach : (c : Config m) → Low m c → (s : ℕ) (t : SeqrTurn) → SeqrInput m c s t → s < length c.seqrs → (j e p : ℕ) → SeqrReached c j e p → SeqrReached (seqr_turn m c s t) j e p
  seqrs_reach c low s t i less = at_set c.seqrs s t.now (λ j. new_seqr j c.cluster.limit (first_layout c.cluster)) (λ j x. (e p : ℕ) → Reached' (seqr_in m c j) e p → Reached' x e p) less (turn_reaches c low s t i) (λ j other e p k. k)

  same_seqr : (s j : ℕ) → seqr_id s ≡ seqr_id j → s ≡ j
  same_seqr s j e = ap (λ (n : NodeId). n.num) e

  answers_keep : (c : Config m) → Low m c → Answers c → Cases m c Answers
  answers_keep c low all = by_seqr m Answers c all calm own
    where
      calm : IsCalm m role.Seqr c Answers
      calm d q = record {
        each = λ s a pos ls has from tells. answered_on c d s a pos q.grows.sent
            (λ e t k. subst (λ (x : SeqrState). Reached' x e t) (λ i. slice_index_or (sym (q.seqrs refl) i) s (new_seqr s (sym q.cluster i).limit (first_layout (sym q.cluster i)))) k)
            (all.each s a pos ls (q.old a has (ap (λ (n : NodeId). n.role) from)) from tells);
      }

      own : (s : ℕ) (t : SeqrTurn) → SeqrInput m c s t → s < length c.seqrs → Answers (seqr_turn m c s t)
      own s t i less = record { each = λ j a pos ls has from tells. by j a pos ls from tells (has_either c.packets (map (packet_of m (seqr_id s)) t.sends) a has) }
        where
          more : (x : Packet) → Has c.packets x → Has (seqr_turn m c s t).packets x
          more x g = has_left c.packets _ x g

          here : (a : Packet) (pos : ℕ) (ls : List StreamLink) (o : Out) → a ≡ packet_of m (seqr_id s) o → Tells c s o pos ls → Answered (seqr_turn m c s t) s a pos
          here a pos ls o is k = record {
            ask = k.ask;
            has = more k.ask k.comes.sent;
            to = k.comes.to_node ∙ sym (ap (λ (x : Packet). x.from) is);
            from = sym (ap (λ (x : Packet). x.to) is ∙ k.told.to);
            rid = sym (ap (λ (x : Packet). x.rid) is ∙ k.told.number);
            request = k.told.request;
            reached = λ e os asks. let g = k.told.links e os asks in let n = g.2 in seqrs_reach c low s t i less s e pos (inr (sym g.0, omega (arith, n)));
          }

          by : (j : ℕ) (a : Packet) (pos : ℕ) (ls : List StreamLink) → a.from ≡ seqr_id j → tells_links a.msg ≡ Some (pos, ls) → Has c.packets a ⊎ Has (map (packet_of m (seqr_id s)) t.sends) a → Answered (seqr_turn m c s t) j a pos
          by j a pos ls from tells (inl g) = answered_on c (seqr_turn m c s t) j a pos more (λ e p k. seqrs_reach c low s t i less j e p k) (all.each j a pos ls g from tells)
          by j a pos ls from tells (inr g) =
              let o = has_map (packet_of m (seqr_id s)) t.sends a g in
              let same : s ≡ j = same_seqr s j (sym (ap (λ (x : Packet). x.from) o.is) ∙ from) in
              subst (λ (n : ℕ). Answered (seqr_turn m c s t) n a pos) same (here a pos ls o.of o.is (turn_tells c s t i o.of pos ls o.has (sym (ap (λ (x : Packet). tells_links x.msg) o.is) ∙ tells)))

  both_keep : Keeps m (λ c. Low m c × Answers c)
  both_keep = keeps_above m (Low m) Answers (low_keeps m) (λ c low f. cases_map m c Answers (λ d. Low m d → Answers d) (λ d x y. x) (answers_keep c low f))

  start_answers : (h : Header) → Answers (config m (start m h))
  unfolding start
  start_answers h = record { each = λ s a pos ls has. absurd has }

  pub answers_hold : (h : Header) (xs : Moves m) → Low m (config m (after m h xs)) × Answers (config m (after m h xs))
  answers_hold h xs = run_keeps m (λ c. Low m c × Answers c) both_keep xs (start m h) (start_low m h, start_answers h)
