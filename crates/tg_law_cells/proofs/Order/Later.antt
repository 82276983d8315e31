-- No lower tail is told after a confirmed one.
use Rattle.std.proofs.Common.{◌≡◌, ◌⊎◌, ℕ, ◌<◌, ◌≤◌, List, [], length, map, true, refl, sym, ap, ◌∙◌, subst, inl, inr, arith}
use Rattle.std.specs.Prelude.{slice_index_or}
use Rattle.tg_base.specs.Clusters.{Header}
use Rattle.tg_base.specs.Layouts.{Layout}
use Rattle.tg_base.specs.declared.ids.NodeId.{NodeId}
use Rattle.tg_base.specs.declared.ids.Oid.{Oid}
use Rattle.tg_base.specs.declared.ids.Role.TheVariants as role
use Rattle.tg_base.specs.declared.marks.StreamLink.{StreamLink}
use Rattle.tg_base.specs.declared.msg.Msg.{Msg}
use Rattle.tg_base.specs.declared.msg.Msg.TheVariants as msg
use Rattle.tg_base.specs.declared.packet.Out.{Out}
use Rattle.tg_base.specs.declared.packet.Packet.{Packet}
use Rattle.tg_kind.specs.Meaning.{Meaning}
use Rattle.tg_protocol.specs.Words.{seqr_id}
use Rattle.tg_protocol.specs.Layouts.{first_layout}
use Rattle.tg_protocol.specs.Sequencers.{SeqrState, SeqrTurn, new_seqr, seqr_tick}
use Rattle.tg_protocol.specs.Chosen.{IsDecided}
use Rattle.tg_protocol.specs.Worlds.{World, start, packet_of}
use Rattle.tg_protocol.specs.Runs.{Moves, Reaches, Passes, run}
use Rattle.tg_law_layouts.specs.Moves.After.{after}
use Rattle.tg_law_layouts.specs.Moves.Configs.{Config, config, seqr_in}
use Rattle.tg_law_layouts.specs.Moves.Telling.{is_request}
use Rattle.tg_law_layouts.proofs.Moves.Growth.{IsCalm, by_seqr}
use Rattle.tg_law_layouts.proofs.Moves.Lists.{contained, at_set}
use Rattle.tg_law_layouts.proofs.Moves.Members.{Has, has_left, has_either, has_map, has_contained}
use Rattle.tg_law_layouts.proofs.Moves.Moves.{Cases, Comes, seqr_turn, SeqrInput, Hears, Ticks, Keeps, cases_map, keeps_above, run_keeps}
use Rattle.tg_law_layouts.proofs.Moves.Scripts.{run_both}
use Rattle.tg_law_layouts.proofs.Requests.Told.{NumbersOnce}
use Rattle.tg_law_layouts.proofs.Requests.Numbers.{numbers_once}
use Rattle.tg_law_layouts.specs.Layouts.Decisions.{IsOfDecided, TellsDecided}
use Rattle.tg_law_layouts.proofs.Layouts.Deciding.{one_layout, layouts_are_known}
use Rattle.tg_law_cells.proofs.Tokens.Issues.{Low, turned}
use Rattle.tg_law_cells.proofs.Tokens.Naming.{Keeps', AsBefore, Learnt, step_keeps}
use Rattle.tg_law_cells.proofs.Tokens.Named.{Known, Seq, naming_holds}
use Rattle.tg_law_cells.specs.Order.Tails.{ToldTail, EachPassed}
use Rattle.tg_law_cells.specs.Order.Later.{ToldSince, TailsRise}
use Rattle.tg_law_cells.proofs.Order.Tails.{Passed, passed_on, not_scanning, IsAnswer, step_answers, scan_quiet, check_asks, same_seqr, Tails, both_keeps, both_hold, told_passed, starts_past}

-- the check that an answer was made to
pub record Checked (ps : List Packet) (a : Packet) (e : ℕ) (os : List Oid) : Type 0 where
  pub ask : Packet
  pub has : Has ps ask
  pub to : ask.to ≡ a.from
  pub from : ask.from ≡ a.to
  pub rid : ask.rid ≡ a.rid
  pub is : ask.msg ≡ msg.Check e os

module _ (m : Meaning) where
  abbrev Base : Config m → Type 0
  Base c = Low m c × Tails m c

  -- an answer that was there had its check then
  old_check : (c : Config m) (qs : List Packet) (s : ℕ) (a : Packet) (tail e : ℕ) (ls : List StreamLink) (os : List Oid) → Tails m c → NumbersOnce qs → ((x : Packet) → Has c.packets x → Has qs x) → Has c.packets a → a.from ≡ seqr_id s
      → a.msg ≡ msg.Tail tail ls → Checked qs a e os → Checked c.packets a e os
  old_check c qs s a tail e ls os tails n up has from is k =
      let l = tails.each s a tail ls has from is in
      record { ask = l.ask; has = l.has; to = l.to; from = l.from; rid = l.rid; is = n.same l.ask k.ask (up l.ask l.has) k.has l.request (check_asks e os k.ask.msg k.is) (l.from ∙ sym k.from) (l.to ∙ sym k.to) (l.rid ∙ sym k.rid) ∙ k.is }

  -- What it tells afterwards in an epoch, and in which layouts' epochs it tells.

  module _ (s0 e0 t0 : ℕ) (old : List Packet) where
    pub record Since (c : Config m) : Type 0 where
      pub passed : Passed (seqr_in m c s0) e0 t0
      pub each : (a : Packet) (tail : ℕ) (ls : List StreamLink) (os : List Oid) → Has c.packets a → a.from ≡ seqr_id s0 → a.msg ≡ msg.Tail tail ls → Checked c.packets a e0 os → Has old a ⊎ (t0 ≤ tail)

    since_calm : (c : Config m) → Tails m c → Since c → IsCalm m role.Seqr c (λ d. NumbersOnce d.packets → Since d)
    since_calm c tails h d q n = record {
      passed = subst (λ (x : SeqrState). Passed x e0 t0) (sym same) h.passed;
      each = λ a tail ls os has from is k.
          let i = q.old a has (ap (λ (x : NodeId). x.role) from) in
          h.each a tail ls os i from is (old_check c d.packets s0 a tail e0 ls os tails n q.grows.sent i from is k);
    }
      where
        same : seqr_in m d s0 ≡ seqr_in m c s0
        same = λ i. slice_index_or (q.seqrs refl i) s0 (new_seqr s0 (q.cluster i).limit (first_layout (q.cluster i)))

    module _ (c : Config m) (base : Base c) (h : Since c) (s : ℕ) (t : SeqrTurn) (i : SeqrInput m c s t) (less : s < length c.seqrs) (n : NumbersOnce (seqr_turn m c s t).packets) where
      abbrev z : SeqrState
      z = seqr_in m c s

      abbrev qs : List Packet
      qs = (seqr_turn m c s t).packets

      more : (x : Packet) → Has c.packets x → Has qs x
      more x y = has_left c.packets _ x y

      passed_turned : (j : ℕ) → j ≡ s0 → Passed (seqr_in m (seqr_turn m c s t) j) e0 t0
      passed_turned = at_set c.seqrs s t.now (λ j. new_seqr j c.cluster.limit (first_layout c.cluster)) (λ j x. j ≡ s0 → Passed x e0 t0) less
          (λ same. passed_on z t.now e0 t0 (turned m c s t (base.0.1.scans s) i).went (subst (λ (j : ℕ). Passed (seqr_in m c j) e0 t0) (sym same) h.passed)) (λ j other same. subst (λ (x : ℕ). Passed (seqr_in m c x) e0 t0) (sym same) h.passed)

      -- a new tail is the next position, of one that is past the tail
      answered : (p : Packet) → Comes m c p (seqr_id s) → (a : Packet) (tail : ℕ) (os : List Oid) (o : Out) → a ≡ packet_of m (seqr_id s) o → IsAnswer z p.from p.rid p.msg o tail → a.from ≡ seqr_id s0 → Checked qs a e0 os → t0 ≤ tail
      answered p comes a tail os o is k from x =
          let there : p.from ≡ x.ask.from = sym (x.from ∙ (ap (λ (y : Packet). y.to) is ∙ k.to)) in
          let to : p.to ≡ x.ask.to = comes.to_node ∙ sym (x.to ∙ ap (λ (y : Packet). y.from) is) in
          let rid : p.rid ≡ x.ask.rid = sym (x.rid ∙ (ap (λ (y : Packet). y.rid) is ∙ k.number)) in
          let asks : p.msg ≡ msg.Check e0 os = n.same p x.ask (more p comes.sent) x.has k.request (check_asks e0 os x.ask.msg x.is) there to rid ∙ x.is in
          let u = k.tells e0 os asks in
          let same : s0 ≡ s = same_seqr s0 s (sym from ∙ ap (λ (y : Packet). y.from) is) in
          let past = ((subst (λ (j : ℕ). Passed (seqr_in m c j) e0 t0) same h.passed).here u.0).1 in
          let next = u.2 in
          omega (arith, past, next)

      new : (u : SeqrTurn) → SeqrInput m c s u → (a : Packet) (tail : ℕ) (ls : List StreamLink) (os : List Oid) → a.msg ≡ msg.Tail tail ls → a.from ≡ seqr_id s0 → Checked qs a e0 os → (o : Out) → Has u.sends o → a ≡ packet_of m (seqr_id s) o → t0 ≤ tail
      unfolding seqr_tick is_request
      new u (Hears p comes) a tail ls os tells from x o j is = answered p comes a tail os o is (step_answers z p.from p.rid p.msg o tail ls j (sym (ap (λ (y : Packet). y.msg) is) ∙ tells)) from x
      new u Ticks a tail ls os tells from x o j is = absurd (never (scan_quiet z (seqr_id s) 0 msg.Held z.scan o tail ls j (sym (ap (λ (y : Packet). y.msg) is) ∙ tells)).request)
        where
          never : is_request msg.Held ≡ true → ⊥
          never e = cc

      each_turned : (a : Packet) (tail : ℕ) (ls : List StreamLink) (os : List Oid) → Has qs a → a.from ≡ seqr_id s0 → a.msg ≡ msg.Tail tail ls → Checked qs a e0 os → Has old a ⊎ (t0 ≤ tail)
      each_turned a tail ls os has from is k = by (has_either c.packets _ a has)
        where
          by : Has c.packets a ⊎ Has (map (packet_of m (seqr_id s)) t.sends) a → Has old a ⊎ (t0 ≤ tail)
          by (inl x) = h.each a tail ls os x from is (old_check c qs s0 a tail e0 ls os base.1 n more x from is k)
          by (inr x) = let y = has_map (packet_of m (seqr_id s)) t.sends a x in inr (new t i a tail ls os is from k y.of y.has y.is)

      since_turned : Since (seqr_turn m c s t)
      since_turned = record { passed = passed_turned s0 refl; each = each_turned }

    since_keep : (c : Config m) → Base c → Since c → Cases m c (λ d. NumbersOnce d.packets → Since d)
    since_keep c base h = by_seqr m (λ d. NumbersOnce d.packets → Since d) c (λ n. h) (since_calm c base.1 h) (λ s t i less n. since_turned c base h s t i less n)

    pub since_keeps : Keeps m (λ c. Base c × Since c)
    since_keeps = keeps_above m Base Since (both_keeps m) (λ c a f. cases_map m c (λ d. NumbersOnce d.packets → Since d) (λ d. Base d → Since d) (λ d g x. g (numbers_once m d x.0.0.0.0)) (since_keep c a f))

  -- A tail is told by the sequencer of a layout of its epoch that is known, from its start on.

  pub record Under (ps : List Packet) (first : Layout) (s e tail : ℕ) : Type 0 where
    pub layout : Layout
    pub known : Known ps first layout
    pub epoch : layout.epoch ≡ e
    pub seq : layout.seq ≡ s
    pub past : layout.start ≤ tail

  known_grows : (ps now : List Packet) (first : Layout) → ((x : Packet) → Has ps x → Has now x) → (q : Layout) → Known ps first q → Known now first q
  known_grows ps now first up q (inl e) = inl e
  known_grows ps now first up q (inr k) = inr (record { packet = k.packet; sent = up k.packet k.sent; is = k.is })

  under_grows : (ps now : List Packet) (first : Layout) → ((x : Packet) → Has ps x → Has now x) → (s e tail : ℕ) → Under ps first s e tail → Under now first s e tail
  under_grows ps now first up s e tail u = record { layout = u.layout; known = known_grows ps now first up u.layout u.known; epoch = u.epoch; seq = u.seq; past = u.past }

  seq_grows : (ps now : List Packet) (first : Layout) → ((x : Packet) → Has ps x → Has now x) → (s : ℕ) (x : SeqrState) → Seq ps first s x → Seq now first s x
  seq_grows ps now first up s x k = record { num = k.num; known = known_grows ps now first up x.proj k.known; own = k.own }

  seq_on : (ps now : List Packet) (first : Layout) → ((x : Packet) → Has ps x → Has now x) → (s : ℕ) (x t : SeqrState) (y : Packet) → Has ps y → Seq ps first s x → Keeps' x y.msg t → Seq now first s t
  seq_on ps now first up s x t y has k (AsBefore a b c) = record {
    num = a ∙ k.num;
    known = subst (λ (q : Layout). Known now first q) (sym b) (known_grows ps now first up x.proj k.known);
    own = λ l. let z = k.own (subst (λ (n : ℕ). 0 < n) c l) in (subst (λ (q : Layout). q.epoch ≡ t.epoch) (sym b) (z.0 ∙ sym c), subst (λ (q : Layout). q.seq ≡ s) (sym b) z.1);
  }
  seq_on ps now first up s x t y has k (Learnt a b c d) = record { num = a ∙ k.num; known = inr (record { packet = y; sent = up y has; is = b }); own = λ l. (c, d ∙ k.num) }

  pub record Unders (c : Config m) : Type 0 where
    pub seqs : (s : ℕ) → Seq c.packets (first_layout c.cluster) s (seqr_in m c s)
    pub under : (s : ℕ) (a : Packet) (tail e : ℕ) (ls : List StreamLink) (os : List Oid) → Has c.packets a → a.from ≡ seqr_id s → a.msg ≡ msg.Tail tail ls → Checked c.packets a e os → 0 < e → Under c.packets (first_layout c.cluster) s e tail

  unders_calm : (c : Config m) → Tails m c → Unders c → IsCalm m role.Seqr c (λ d. NumbersOnce d.packets → Unders d)
  unders_calm c tails k d q n = record {
    seqs = λ s. subst (λ (x : SeqrState). Seq d.packets (first_layout d.cluster) s x) (sym (same s))
        (subst (λ (x : Header). Seq d.packets (first_layout x) s (seqr_in m c s)) (sym q.cluster) (seq_grows c.packets d.packets (first_layout c.cluster) q.grows.sent s (seqr_in m c s) (k.seqs s)));
    under = λ s a tail e ls os has from is asked some.
        let i = q.old a has (ap (λ (x : NodeId). x.role) from) in
        subst (λ (x : Header). Under d.packets (first_layout x) s e tail) (sym q.cluster)
        (under_grows c.packets d.packets (first_layout c.cluster) q.grows.sent s e tail (k.under s a tail e ls os i from is (old_check c d.packets s a tail e ls os tails n q.grows.sent i from is asked) some));
  }
    where
      same : (s : ℕ) → seqr_in m d s ≡ seqr_in m c s
      same s = λ i. slice_index_or (q.seqrs refl i) s (new_seqr s (q.cluster i).limit (first_layout (q.cluster i)))

  module _ (c : Config m) (base : Base c) (k : Unders c) (s : ℕ) (t : SeqrTurn) (i : SeqrInput m c s t) (less : s < length c.seqrs) (n : NumbersOnce (seqr_turn m c s t).packets) where
    abbrev y : SeqrState
    y = seqr_in m c s

    abbrev rs : List Packet
    rs = (seqr_turn m c s t).packets

    abbrev first : Layout
    first = first_layout c.cluster

    up : (x : Packet) → Has c.packets x → Has rs x
    up x h = has_left c.packets _ x h

    here : (p : Packet) → Comes m c p (seqr_id s) → (a : Packet) (tail e : ℕ) (os : List Oid) (o : Out) → a ≡ packet_of m (seqr_id s) o → IsAnswer y p.from p.rid p.msg o tail → Checked rs a e os → 0 < e → Under rs first s e tail
    here p comes a tail e os o is h x some =
        let there : p.from ≡ x.ask.from = sym (x.from ∙ (ap (λ (z : Packet). z.to) is ∙ h.to)) in
        let to : p.to ≡ x.ask.to = comes.to_node ∙ sym (x.to ∙ ap (λ (z : Packet). z.from) is) in
        let rid : p.rid ≡ x.ask.rid = sym (x.rid ∙ (ap (λ (z : Packet). z.rid) is ∙ h.number)) in
        let asks : p.msg ≡ msg.Check e os = n.same p x.ask (up p comes.sent) x.has h.request (check_asks e os x.ask.msg x.is) there to rid ∙ x.is in
        let u = h.tells e os asks in
        let own = (k.seqs s).own (subst (λ (j : ℕ). 0 < j) u.0 some) in
        let ready = not_scanning y u.1 in
        let next = u.2 in
        record { layout = y.proj; known = known_grows c.packets rs first up y.proj (k.seqs s).known; epoch = own.0 ∙ sym u.0; seq = own.1; past = omega (arith, ready, next) }

    told : (u : SeqrTurn) → SeqrInput m c s u → (a : Packet) (tail e : ℕ) (ls : List StreamLink) (os : List Oid) → a.msg ≡ msg.Tail tail ls → Checked rs a e os → 0 < e → (o : Out) → Has u.sends o → a ≡ packet_of m (seqr_id s) o → Under rs first s e tail
    unfolding seqr_tick is_request
    told u (Hears p comes) a tail e ls os tells x some o j is = here p comes a tail e os o is (step_answers y p.from p.rid p.msg o tail ls j (sym (ap (λ (z : Packet). z.msg) is) ∙ tells)) x some
    told u Ticks a tail e ls os tells x some o j is = absurd (never (scan_quiet y (seqr_id s) 0 msg.Held y.scan o tail ls j (sym (ap (λ (z : Packet). z.msg) is) ∙ tells)).request)
      where
        never : is_request msg.Held ≡ true → ⊥
        never e = cc

    seq_now : (u : SeqrTurn) → SeqrInput m c s u → Seq rs first s u.now
    unfolding seqr_tick
    seq_now u (Hears p comes) = seq_on c.packets rs first up s y _ p comes.sent (k.seqs s) (step_keeps y p.from p.rid p.msg)
    seq_now u Ticks = seq_grows c.packets rs first up s y (k.seqs s)

    unders_turned : Unders (seqr_turn m c s t)
    unders_turned = record {
      seqs = at_set c.seqrs s t.now (λ j. new_seqr j c.cluster.limit (first_layout c.cluster)) (λ j x. Seq rs first j x) less (seq_now t i) (λ j other. seq_grows c.packets rs first up j (seqr_in m c j) (k.seqs j));
      under = λ j a tail e ls os has from is x some. by j a tail e ls os from is x some (has_either c.packets _ a has);
    }
      where
        by : (j : ℕ) (a : Packet) (tail e : ℕ) (ls : List StreamLink) (os : List Oid) → a.from ≡ seqr_id j → a.msg ≡ msg.Tail tail ls → Checked rs a e os → 0 < e → Has c.packets a ⊎ Has (map (packet_of m (seqr_id s)) t.sends) a → Under rs first j e tail
        by j a tail e ls os from is x some (inl h) = under_grows c.packets rs first up j e tail (k.under j a tail e ls os h from is (old_check c rs j a tail e ls os base.1 n up h from is x) some)
        by j a tail e ls os from is x some (inr h) =
            let y' = has_map (packet_of m (seqr_id s)) t.sends a h in
            let same : s ≡ j = same_seqr s j (sym (ap (λ (z : Packet). z.from) y'.is) ∙ from) in
            subst (λ (l : ℕ). Under rs first l e tail) same (told t i a tail e ls os is x some y'.of y'.has y'.is)

  unders_keep : (c : Config m) → Base c → Unders c → Cases m c (λ d. NumbersOnce d.packets → Unders d)
  unders_keep c base k = by_seqr m (λ d. NumbersOnce d.packets → Unders d) c (λ n. k) (unders_calm c base.1 k) (λ s t i less n. unders_turned c base k s t i less n)

  unders_keeps : Keeps m (λ c. Base c × Unders c)
  unders_keeps = keeps_above m Base Unders (both_keeps m) (λ c a f. cases_map m c (λ d. NumbersOnce d.packets → Unders d) (λ d. Base d → Unders d) (λ d g x. g (numbers_once m d x.0.0.0.0)) (unders_keep c a f))

  start_unders : (h : Header) → Unders (config m (start m h))
  unfolding start run
  start_unders h = record { seqs = (naming_holds m h []).seqs; under = λ s a tail e ls os has. absurd has }

  unders_hold : (h : Header) (xs : Moves m) → Unders (config m (after m h xs))
  unfolding run
  unders_hold h xs = (run_keeps m (λ c. Base c × Unders c) unders_keeps xs (start m h) (both_hold m h [], start_unders h)).1

  module _ (h : Header) (ms : Moves m) (u v : World m) (r : Reaches m h ms v) (x : Passes m h ms u) where
    abbrev w0 : World m
    w0 = after m h x.before

    is_run : v ≡ run m x.after (after m h x.before)
    is_run = r.goes.is ∙ (ap (λ (zs : Moves m). run m zs (start m h)) x.split ∙ run_both m x.before x.after (start m h))

    check_of : (s e tail : ℕ) (t : ToldTail m v s e tail) → Checked v.packets t.answer e t.streams
    check_of s e tail t = record { ask = t.ask; has = has_contained v.packets t.ask t.asked; to = t.to_seqr ∙ sym t.from_seqr; from = sym t.back; rid = sym t.number; is = t.asks }

    pub decided_of : (q : Layout) → Known v.packets (first_layout v.cluster) q → IsOfDecided m v q
    decided_of q (inl e) = inl (ap (λ (y : Layout). y.epoch) e, e)
    decided_of q (inr k) = subst (λ (y : Msg). TellsDecided m v y) k.is ((layouts_are_known m h ms v r).sent k.packet (contained v.packets k.packet k.sent))

    pub under_of : (s e tail : ℕ) → 0 < e → ToldTail m v s e tail → Under v.packets (first_layout v.cluster) s e tail
    under_of s e tail some t =
        (subst (λ (y : World m). Unders (config m y)) (sym r.goes.is) (unders_hold h ms)).under s t.answer tail e t.links t.streams (has_contained v.packets t.answer t.answered) t.from_seqr t.tells (check_of s e tail t) some

    -- of one sequencer and one epoch
    same_epoch : (s e tail low : ℕ) → ToldTail m u s e tail → ToldSince m u v s e low → tail ≤ low
    same_epoch s e tail low t l = by (since.1.each l.told.answer low l.told.links l.told.streams (has_contained v.packets l.told.answer l.told.answered) l.told.from_seqr l.told.tells (check_of s e low l.told))
      where
        passed : Passed (seqr_in m (config m u) s) e tail
        passed = subst (λ (y : World m). ToldTail m y s e tail → Passed (seqr_in m (config m y) s) e tail) (sym x.is) (told_passed m h x.before s e tail) t

        base : Base (config m u)
        base = subst (λ (y : World m). Base (config m y)) (sym x.is) (both_hold m h x.before)

        goes : v ≡ run m x.after u
        goes = is_run ∙ ap (λ (y : World m). run m x.after y) (sym x.is)

        since : Base (config m v) × Since s e tail u.packets (config m v)
        since = subst (λ (y : World m). Base (config m y) × Since s e tail u.packets (config m y)) (sym goes)
            (run_keeps m (λ c. Base c × Since s e tail u.packets c) (since_keeps s e tail u.packets) x.after u (base, record { passed = passed; each = λ a p ls os has from is k. inl has }))

        by : Has u.packets l.told.answer ⊎ (tail ≤ low) → tail ≤ low
        by (inl old) = absurd (l.since (contained u.packets l.told.answer old))
        by (inr le) = le

    rise : TailsRise m u v
    rise s e later tail low t le l = by (split e later le)
      where
        split : (a b : ℕ) → a ≤ b → (a ≡ b) ⊎ (a < b)
        split a b k = grind arith

        positive : 0 < later
        positive = let p = t.some in omega (arith, p, le)

        under : Under v.packets (first_layout v.cluster) s later low
        under = under_of s later low positive l.told

        decided : IsDecided m v later under.layout
        decided = subst (λ (n : ℕ). IsDecided m v n under.layout) under.epoch (decided_of under.layout under.known)

        by : (e ≡ later) ⊎ (e < later) → tail ≤ low
        by (inl same) =
            let one = one_layout m h ms v r later t.layout under.layout (subst (λ (n : ℕ). IsDecided m v n t.layout) same t.decided) decided in
            let seqr : t.layout.seq ≡ s = ap (λ (q : Layout). q.seq) one ∙ under.seq in
            same_epoch s later tail low (subst (λ (n : ℕ). ToldTail m u n later tail) seqr (subst (λ (n : ℕ). ToldTail m u t.layout.seq n tail) same t.told)) l
        by (inr less) =
            let at = under.epoch in
            let start = starts_past m h ms u v r x e tail t under.layout (decided_of under.layout under.known) (omega (arith, less, at)) in
            let past = under.past in
            omega (arith, start, past)

pub tails_rise : (m : Meaning) → EachPassed m (TailsRise m)
tails_rise m h ms u v r x = rise m h ms u v r x
