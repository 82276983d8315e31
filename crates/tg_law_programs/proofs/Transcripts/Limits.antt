-- Where a sequencer says that the log is full, it tells the header's limit.
use Rattle.std.proofs.Common.{◌≡◌, ◌⊎◌, ℕ, List, [], ◌∷◌, map, Bool, true, false, refl, sym, ap, ◌∙◌, subst, inl, inr, Some, None, Option}
use Rattle.tg_base.specs.Clusters.{Header}
use Rattle.tg_base.specs.Layouts.{Layout}
use Rattle.tg_base.specs.declared.ids.NodeId.{NodeId}
use Rattle.tg_base.specs.declared.ids.Oid.{Oid}
use Rattle.tg_base.specs.declared.ids.Role.TheVariants as role
use Rattle.tg_base.specs.declared.marks.StreamLink.{StreamLink}
use Rattle.tg_base.specs.declared.msg.Msg.{Msg}
use Rattle.tg_base.specs.declared.msg.Msg.TheVariants as msg
use Rattle.tg_base.specs.declared.packet.Out.{Out}
use Rattle.tg_base.specs.declared.packet.Packet.{Packet}
use Rattle.tg_kind.specs.Meaning.{Meaning}
use Rattle.tg_protocol.specs.Cells.{Place, CellWork, Puts, Gets, Fills, Copies, Probes, CellJob, cell_feed, work_asks}
use Rattle.tg_protocol.specs.Replies.{reply}
use Rattle.tg_protocol.specs.Requests.{out}
use Rattle.tg_protocol.specs.Runs.{Moves}
use Rattle.tg_protocol.specs.Sequencers.{SeqrState, SeqrTurn, links_of, scan_asks, seqr_asks, scan_turn, fed_if, scan_fed, answers, begun, stand_answer, learns, issue, on_token, unfenced, own_epoch, on_learn, learn_or_old, seqr_step, seqr_tick}
use Rattle.tg_protocol.specs.Words.{unit_id, seqr_id}
use Rattle.tg_protocol.specs.Worlds.{World, start, packet_of}
use Rattle.tg_any.specs.AllKinds.{all_kinds}
use Rattle.tg_law_layouts.specs.Moves.After.{after}
use Rattle.tg_law_layouts.specs.Moves.Configs.{Config, config, seqr_in}
use Rattle.tg_law_layouts.proofs.Moves.Growth.{IsCalm, by_seqr}
use Rattle.tg_law_layouts.proofs.Moves.Members.{Has, has_contained, has_either, has_map, has_filter}
use Rattle.tg_law_layouts.proofs.Moves.Moves.{Cases, Keeps, cases_map, keeps_above, SeqrInput, Hears, Ticks, seqr_turn, run_keeps}
use Rattle.tg_law_programs.specs.Transcripts.Fits.{EachFullTells}
use Rattle.tg_law_programs.proofs.Transcripts.Places.{Near, near_keeps, start_near}

is_full : Msg → Bool
is_full (msg.Full l) = true
is_full x = false

not_full : (x : Msg) (l : ℕ) → x ≡ msg.Full l → is_full x ≡ false → ⊥
unfolding is_full
not_full x l e q = no (sym (ap is_full e) ∙ q)
  where
    no : true ≡ false → ⊥
    no z = cc

full_limit : (a b : ℕ) → msg.Full a ≡ msg.Full b → b ≡ a
full_limit a b e = cc

one_quiet : (to : NodeId) (r : ℕ) (x : Msg) → is_full x ≡ false → (o : Out) → Has (out to r x ∷ []) o → is_full o.msg ≡ false
one_quiet to r x q o (inl e) = subst (λ (y : Out). is_full y.msg ≡ false) (sym e) q
one_quiet to r x q o (inr h) = absurd h

work_quiet : (a : Place) (w : CellWork) (o : Out) → Has (work_asks a w) o → is_full o.msg ≡ false
unfolding work_asks is_full
work_quiet a (Puts r d i) o h = one_quiet _ r _ refl o h
work_quiet a (Gets r) o h = one_quiet _ r _ refl o h
work_quiet a (Fills r) o h = one_quiet _ r _ refl o h
work_quiet a (Copies r c i) o h = one_quiet _ r _ refl o h
work_quiet a (Probes ws) o h = let i = has_map (λ (w : ℕ × ℕ). out (unit_id w.0) w.1 (msg.Has a.epoch a.pos a.pos 1)) ws o h in subst (λ (y : Out). is_full y.msg ≡ false) (sym i.is) refl

scan_quiet : (j : Option CellJob) (o : Out) → Has (scan_asks j) o → is_full o.msg ≡ false
scan_quiet None o h = absurd h
scan_quiet (Some j) o h = work_quiet j.place j.work o h

-- a turn that says that the log is full tells this limit
abbrev Tells : SeqrState → SeqrTurn → Type 0
Tells s t = (o : Out) (l : ℕ) → Has t.sends o → o.msg ≡ msg.Full l → l ≡ s.limit

module _ (s : SeqrState) (from : NodeId) (rid : ℕ) where
  quiet : (t : SeqrState) (sends : List Out) → ((o : Out) → Has sends o → is_full o.msg ≡ false) → Tells s (record { now = t; sends = sends })
  quiet t sends q o l i e = absurd (not_full o.msg l e (q o i))

  fed : (b : Bool) (t : SeqrState) → Tells s (fed_if b s t)
  fed true t = quiet t _ (λ o h. scan_quiet t.scan o (has_filter _ (seqr_asks t) o h))
  fed false t = quiet s [] (λ o h. absurd h)

  scans : (j : Option CellJob) (x : Msg) → Tells s (scan_fed s j from rid x)
  scans None x = quiet s [] (λ o h. absurd h)
  scans (Some j) x = fed _ (scan_turn s (cell_feed j from.num (reply x) s.rids))

  answered : (x : Msg) → is_full x ≡ false → Tells s (answers s from rid x)
  answered x q = quiet s (out from rid x ∷ []) (one_quiet from rid x q)

  stand_quiet : (t : SeqrState) (ls : List StreamLink) (b : Bool) → is_full (stand_answer t ls b) ≡ false
  unfolding is_full
  stand_quiet t ls true = refl
  stand_quiet t ls false = refl

  begins : (q : Layout) → Tells s (learns s (begun s q) from rid)
  begins q = quiet (begun s q) (learns s (begun s q) from rid).sends sends
    where
      sends : (o : Out) → Has (learns s (begun s q) from rid).sends o → is_full o.msg ≡ false
      sends o (inl e) = one_quiet from rid _ (stand_quiet (begun s q) [] _) o (inl e)
      sends o (inr h) = scan_quiet (begun s q).scan o (has_filter _ (seqr_asks (begun s q)) o h)

  unfenced_tells : (f : Option ℕ) (t : SeqrTurn) → Tells s t → Tells s (unfenced f s from rid t)
  unfolding is_full
  unfenced_tells None t d = d
  unfenced_tells (Some e) t d = answered (msg.OldEpoch e) refl

  own : (b : Bool) (t : SeqrTurn) → Tells s t → Tells s (own_epoch b s from rid t)
  unfolding is_full
  own true t d = unfenced_tells s.fence t d
  own false t d = answered (msg.OldEpoch s.epoch) refl

  learn : (q : Layout) (b : Bool) → Tells s (on_learn s q from rid b)
  learn q true = begins q
  learn q false = unfenced_tells s.fence _ (answered _ (stand_quiet s [] _))

  learn_or : (q : Layout) (b : Bool) → Tells s (learn_or_old s q from rid b)
  unfolding is_full
  learn_or q true = answered (msg.OldEpoch s.epoch) refl
  learn_or q false = learn q _

  issues : (os : List Oid) (b : Bool) → Tells s (issue s os from rid b)
  unfolding is_full
  issues os true o l (inl i) e = full_limit s.limit l (sym (ap (λ (x : Out). x.msg) i) ∙ e)
  issues os true o l (inr h) e = absurd h
  issues os false o l i e = answered (msg.Issued s.next (links_of s.lists os)) refl o l i e

  tokens : (os : List Oid) (b : Bool) → Tells s (on_token s os from rid b)
  unfolding is_full
  tokens os true = answered (msg.Scanning s.next s.proj.start) refl
  tokens os false = issues os _

  step_tells : (y : Msg) → Tells s (seqr_step s from rid y)
  unfolding seqr_step
  step_tells (msg.Learn q) = learn_or q _
  step_tells (msg.Token e os) = own _ _ (tokens os _)
  step_tells (msg.Check e os) = own _ _ (answered _ (stand_quiet s _ _))
  step_tells y = scans s.scan y

module _ (m : Meaning) where
  turn_tells : (c : Config m) (s : ℕ) (t : SeqrTurn) → SeqrInput m c s t → Tells (seqr_in m c s) t
  unfolding seqr_tick
  turn_tells c s t (Hears p comes) = step_tells (seqr_in m c s) p.from p.rid p.msg
  turn_tells c s t Ticks = quiet (seqr_in m c s) (seqr_id s) 0 (seqr_in m c s) _ (λ o h. scan_quiet (seqr_in m c s).scan o h)

  -- what sequencers have said of a full log
  record Said (c : Config m) : Type 0 where
    full : (s : ℕ) (a : Packet) (l : ℕ) → Has c.packets a → a.from ≡ seqr_id s → a.msg ≡ msg.Full l → l ≡ c.cluster.limit

  calm : (c : Config m) → Said c → IsCalm m role.Seqr c Said
  calm c h d q = record { full = λ s a l has from is. let k = h.full s a l (q.old a has (ap (λ (n : NodeId). n.role) from)) from is in subst (λ (x : Header). l ≡ x.limit) (sym q.cluster) k }

  own_turn : (c : Config m) → Near m c → Said c → (s : ℕ) (t : SeqrTurn) → SeqrInput m c s t → Said (seqr_turn m c s t)
  own_turn c near h s t i = record { full = λ j a l has from is. by j a l from is (has_either c.packets (map (packet_of m (seqr_id s)) t.sends) a has) }
    where
      by : (j : ℕ) (a : Packet) (l : ℕ) → a.from ≡ seqr_id j → a.msg ≡ msg.Full l → Has c.packets a ⊎ Has (map (packet_of m (seqr_id s)) t.sends) a → l ≡ c.cluster.limit
      by j a l from is (inl x) = h.full j a l x from is
      by j a l from is (inr x) = let k = has_map (packet_of m (seqr_id s)) t.sends a x in turn_tells c s t i k.of l k.has (sym (ap (λ (y : Packet). y.msg) k.is) ∙ is) ∙ near.limits s

  said_keeps : (c : Config m) → Near m c → Said c → Cases m c (λ d. Near m d → Said d)
  said_keeps c near h = cases_map m c Said (λ d. Near m d → Said d) (λ d x y. x) (by_seqr m Said c h (calm c h) (λ s t i less. own_turn c near h s t i))

  both_keep : Keeps m (λ c. Near m c × Said c)
  both_keep = keeps_above m (Near m) Said (near_keeps m) said_keeps

  start_said : (h : Header) → Said (config m (start m h))
  unfolding start
  start_said h = record { full = λ s a l has from is. absurd has }

  -- a sequencer that says that the log is full tells the header's limit
  pub full_tells_limit : (h : Header) (ms : Moves m) (s : ℕ) (a : Packet) (l : ℕ) → Has (after m h ms).packets a → a.from ≡ seqr_id s → a.msg ≡ msg.Full l → l ≡ (after m h ms).cluster.limit
  full_tells_limit h ms = (run_keeps m (λ c. Near m c × Said c) both_keep ms (start m h) (start_near m h, start_said h)).1.full

pub full_tells : EachFullTells
full_tells h ms w r s a l i from is = subst (λ (v : World all_kinds). Has v.packets a → l ≡ v.cluster.limit) (sym r.goes.is) (λ j. full_tells_limit all_kinds h ms s a l j from is) (has_contained w.packets a i)
