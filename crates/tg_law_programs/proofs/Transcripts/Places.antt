-- A sequencer issues positions below the header's limit only, so a log has no others.
use Rattle.std.proofs.Common.{◌≡◌, ◌⊎◌, ℕ, ◌+◌, ◌<◌, List, [], ◌∷◌, length, map, Bool, true, false, refl, sym, ap, ◌∙◌, subst, inl, inr, arith, Some, None, Option}
use Rattle.std.specs.Prelude.{slice_index_or, min, nat_le}
use Rattle.std.proofs.lemmas.Bool.Decides.{nat_tests}
use Rattle.tg_base.specs.Clusters.{Header}
use Rattle.tg_base.specs.Layouts.{Layout}
use Rattle.tg_base.specs.declared.ids.NodeId.{NodeId}
use Rattle.tg_base.specs.declared.ids.Oid.{Oid}
use Rattle.tg_base.specs.declared.ids.Role.TheVariants as role
use Rattle.tg_base.specs.declared.marks.StreamLink.{StreamLink}
use Rattle.tg_base.specs.declared.msg.Msg.{Msg}
use Rattle.tg_base.specs.declared.msg.Msg.TheVariants as msg
use Rattle.tg_base.specs.declared.packet.Out.{Out}
use Rattle.tg_base.specs.declared.packet.Packet.{Packet}
use Rattle.tg_entry.specs.declared.entry.Entry.{Entry}
use Rattle.tg_kind.specs.Meaning.{Meaning}
use Rattle.tg_protocol.specs.Alike.{HasEntry}
use Rattle.tg_protocol.specs.Cells.{CellJob, CellEnd, Done, Fenced, Gone, cell_feed}
use Rattle.tg_protocol.specs.Layouts.{first_layout}
use Rattle.tg_protocol.specs.Replies.{reply}
use Rattle.tg_protocol.specs.Requests.{out, Next, Goes, Learns, Ends}
use Rattle.tg_protocol.specs.Runs.{Moves, Reaches}
use Rattle.tg_protocol.specs.Sequencers.{SeqrState, SeqrTurn, new_seqr, links_of, with_positions, cell_streams, seqr_asks, scan_on, scan_ended, scan_next, scan_turn, fed_if, scan_fed, answers, begun, stand_answer, learns, issue, on_token, unfenced, own_epoch, on_learn, learn_or_old, seqr_step, seqr_tick}
use Rattle.tg_protocol.specs.Words.{seqr_id, numbers}
use Rattle.tg_protocol.specs.Worlds.{World, start, log, packet_of}
use Rattle.tg_law_layouts.specs.Moves.After.{after}
use Rattle.tg_law_layouts.specs.Moves.Configs.{Config, config, seqr_in}
use Rattle.tg_law_layouts.proofs.Moves.Growth.{IsCalm, by_seqr}
use Rattle.tg_law_layouts.proofs.Moves.Lists.{at_map, at_set, contained}
use Rattle.tg_law_layouts.proofs.Moves.Members.{Has, has_either, has_map, has_contained, has_filter}
use Rattle.tg_law_layouts.proofs.Moves.Moves.{Keeps, SeqrInput, Hears, Ticks, seqr_turn, run_keeps}
use Rattle.tg_law_cells.specs.Tokens.Issuing.{is_issued}
use Rattle.tg_law_cells.proofs.Tokens.Archive.{log_has_own_pages}
use Rattle.tg_law_cells.proofs.Tokens.Going.{scan_silent}
use Rattle.tg_law_cells.proofs.Tokens.Issues.{not_issued, issued_pos}
use Rattle.tg_law_cells.proofs.Tokens.Linked.{page_in}

-- a sequencer keeps its limit, and issues below it
pub record Fine (s : SeqrState) (t : SeqrTurn) : Type 0 where
  pub limit : t.now.limit ≡ s.limit
  pub below : (o : Out) (p : ℕ) (ls : List StreamLink) → Has t.sends o → o.msg ≡ msg.Issued p ls → p < s.limit

less_of : (a b : ℕ) → nat_le a b ≡ false → b < a
less_of a b e = grind (arith, nat_tests)

scan_limit : (s : SeqrState) (b : Bool) → (scan_on s b).limit ≡ s.limit
scan_limit s true = refl
scan_limit s false = refl

ended_limit : (s : SeqrState) (e : CellEnd) → (scan_ended s e).limit ≡ s.limit
ended_limit s (Done c) = scan_limit (record s { next = s.next + 1; lists = with_positions s.next (cell_streams c) s.lists }) _
ended_limit s (Gone b) = scan_limit (record s { next = min b s.proj.start }) _
ended_limit s (Fenced u e) = refl
ended_limit s e = refl

next_limit : (s : SeqrState) (to : Next CellJob CellEnd) → (scan_next s to).limit ≡ s.limit
next_limit s (Goes j) = refl
next_limit s (Learns j) = refl
next_limit s (Ends e) = ended_limit s e

module _ (s : SeqrState) (from : NodeId) (rid : ℕ) where
  silent : (t : SeqrState) (sends : List Out) → t.limit ≡ s.limit → ((o : Out) → Has sends o → is_issued o.msg ≡ false) → Fine s (record { now = t; sends = sends })
  silent t sends l q = record { limit = l; below = λ o p ls i e. absurd (not_issued o.msg p ls e (q o i)) }

  one_silent : (x : Msg) → is_issued x ≡ false → (o : Out) → Has (out from rid x ∷ []) o → is_issued o.msg ≡ false
  one_silent x q o (inl e) = subst (λ (y : Out). is_issued y.msg ≡ false) (sym e) q
  one_silent x q o (inr h) = absurd h

  fed : (b : Bool) (t : SeqrState) → t.limit ≡ s.limit → Fine s (fed_if b s t)
  fed true t l = silent t _ l (λ o h. scan_silent t.scan o (has_filter _ (seqr_asks t) o h))
  fed false t l = silent s [] refl (λ o h. absurd h)

  scans : (j : Option CellJob) (x : Msg) → Fine s (scan_fed s j from rid x)
  scans None x = silent s [] refl (λ o h. absurd h)
  scans (Some j) x = fed _ (scan_turn s (cell_feed j from.num (reply x) s.rids)) (next_limit _ (cell_feed j from.num (reply x) s.rids).to)

  answered : (x : Msg) → is_issued x ≡ false → Fine s (answers s from rid x)
  answered x q = silent s _ refl (one_silent x q)

  stand_silent : (t : SeqrState) (ls : List StreamLink) (b : Bool) → is_issued (stand_answer t ls b) ≡ false
  unfolding is_issued
  stand_silent t ls true = refl
  stand_silent t ls false = refl

  begins : (q : Layout) → Fine s (learns s (begun s q) from rid)
  begins q = silent (begun s q) _ (scan_limit (record s { epoch = q.epoch; proj = q; next = 0; lists = []; fence = None; scan = None }) _) sends
    where
      sends : (o : Out) → Has (learns s (begun s q) from rid).sends o → is_issued o.msg ≡ false
      sends o (inl e) = one_silent _ (stand_silent (begun s q) [] _) o (inl e)
      sends o (inr h) = scan_silent (begun s q).scan o (has_filter _ (seqr_asks (begun s q)) o h)

  unfenced_fine : (f : Option ℕ) (t : SeqrTurn) → Fine s t → Fine s (unfenced f s from rid t)
  unfolding is_issued
  unfenced_fine None t d = d
  unfenced_fine (Some e) t d = answered (msg.OldEpoch e) refl

  own : (b : Bool) (t : SeqrTurn) → Fine s t → Fine s (own_epoch b s from rid t)
  unfolding is_issued
  own true t d = unfenced_fine s.fence t d
  own false t d = answered (msg.OldEpoch s.epoch) refl

  learn : (q : Layout) (b : Bool) → Fine s (on_learn s q from rid b)
  learn q true = begins q
  learn q false = unfenced_fine s.fence _ (answered _ (stand_silent s [] _))

  learn_or : (q : Layout) (b : Bool) → Fine s (learn_or_old s q from rid b)
  unfolding is_issued
  learn_or q true = answered (msg.OldEpoch s.epoch) refl
  learn_or q false = learn q _

  issues : (os : List Oid) (b : Bool) → nat_le s.limit s.next ≡ b → Fine s (issue s os from rid b)
  unfolding is_issued
  issues os true e = answered (msg.Full s.limit) refl
  issues os false e = record { limit = refl; below = by }
    where
      by : (o : Out) (p : ℕ) (ls : List StreamLink) → Has (out from rid (msg.Issued s.next (links_of s.lists os)) ∷ []) o → o.msg ≡ msg.Issued p ls → p < s.limit
      by o p ls (inl i) f = subst (λ (n : ℕ). n < s.limit) (issued_pos s.next p _ ls (sym (ap (λ (x : Out). x.msg) i) ∙ f)) (less_of s.limit s.next e)
      by o p ls (inr h) f = absurd h

  tokens : (os : List Oid) (b : Bool) → Fine s (on_token s os from rid b)
  unfolding is_issued
  tokens os true = answered (msg.Scanning s.next s.proj.start) refl
  tokens os false = issues os _ refl

  step_fine : (y : Msg) → Fine s (seqr_step s from rid y)
  unfolding seqr_step
  step_fine (msg.Learn q) = learn_or q _
  step_fine (msg.Token e os) = own _ _ (tokens os _)
  step_fine (msg.Check e os) = own _ _ (answered _ (stand_silent s _ _))
  step_fine y = scans s.scan y

module _ (m : Meaning) where
  -- sequencers have the header's limit, and have issued nothing at it or past it
  pub record Near (c : Config m) : Type 0 where
    pub limits : (s : ℕ) → (seqr_in m c s).limit ≡ c.cluster.limit
    pub issued : (s : ℕ) (a : Packet) (p : ℕ) (ls : List StreamLink) → Has c.packets a → a.from ≡ seqr_id s → a.msg ≡ msg.Issued p ls → p < c.cluster.limit

  turn_fine : (c : Config m) (s : ℕ) (t : SeqrTurn) → SeqrInput m c s t → Fine (seqr_in m c s) t
  unfolding seqr_tick
  turn_fine c s t (Hears p comes) = step_fine (seqr_in m c s) p.from p.rid p.msg
  turn_fine c s t Ticks = silent (seqr_in m c s) (seqr_id s) 0 (seqr_in m c s) _ refl (λ o h. scan_silent (seqr_in m c s).scan o h)

  calm : (c : Config m) → Near c → IsCalm m role.Seqr c Near
  calm c h d q = record {
    limits = λ s. ap (λ (x : SeqrState). x.limit) (same s) ∙ (h.limits s ∙ sym (ap (λ (x : Header). x.limit) q.cluster));
    issued = λ s a p ls has from is. let k = h.issued s a p ls (q.old a has (ap (λ (n : NodeId). n.role) from)) from is in subst (λ (x : Header). p < x.limit) (sym q.cluster) k;
  }
    where
      same : (s : ℕ) → seqr_in m d s ≡ seqr_in m c s
      same s = λ i. slice_index_or (q.seqrs refl i) s (new_seqr s (q.cluster i).limit (first_layout (q.cluster i)))

  own_turn : (c : Config m) → Near c → (s : ℕ) (t : SeqrTurn) → SeqrInput m c s t → s < length c.seqrs → Near (seqr_turn m c s t)
  own_turn c h s t i less = record {
    limits = at_set c.seqrs s t.now (λ j. new_seqr j c.cluster.limit (first_layout c.cluster)) (λ j x. x.limit ≡ c.cluster.limit) less (f.limit ∙ h.limits s) (λ j other. h.limits j);
    issued = λ j a p ls has from is. by j a p ls from is (has_either c.packets (map (packet_of m (seqr_id s)) t.sends) a has);
  }
    where
      f : Fine (seqr_in m c s) t
      f = turn_fine c s t i

      by : (j : ℕ) (a : Packet) (p : ℕ) (ls : List StreamLink) → a.from ≡ seqr_id j → a.msg ≡ msg.Issued p ls → Has c.packets a ⊎ Has (map (packet_of m (seqr_id s)) t.sends) a → p < c.cluster.limit
      by j a p ls from is (inl x) = h.issued j a p ls x from is
      by j a p ls from is (inr x) =
          let k = has_map (packet_of m (seqr_id s)) t.sends a x in
          subst (λ (n : ℕ). p < n) (h.limits s) (f.below k.of p ls k.has (sym (ap (λ (y : Packet). y.msg) k.is) ∙ is))

  pub near_keeps : Keeps m Near
  near_keeps c h = by_seqr m Near c h (calm c h) (own_turn c h)

  pub start_near : (h : Header) → Near (config m (start m h))
  unfolding start new_seqr
  start_near h = record {
    limits = λ s. at_map (λ n. new_seqr n h.limit (first_layout h)) (numbers h.seqs 0) s (new_seqr s h.limit (first_layout h)) (λ (x : SeqrState). x.limit ≡ h.limit) (λ j. refl) refl;
    issued = λ s a p ls has from is. absurd has;
  }

  near : (h : Header) (ms : Moves m) → Near (config m (after m h ms))
  near h ms = run_keeps m Near near_keeps ms (start m h) (start_near h)

  -- what a log has stands below the limit
  pub places_near : (h : Header) (ms : Moves m) (w : World m) → Reaches m h ms w → (p : ℕ) (e : Entry) → HasEntry m w p e → p < w.cluster.limit
  places_near h ms w r p e here =
      let page = page_in (log m w) p e (has_contained _ (p, e) here) in
      let token = log_has_own_pages m h ms w r p page.page (contained (log m w) _ page.here) in
      let i = token.own.issued in
      (subst (λ (v : World m). Near (config m v)) (sym r.goes.is) (near h ms)).issued token.own.seqr i.answer p _ (has_contained w.packets i.answer i.answered) i.from_seqr i.issues
