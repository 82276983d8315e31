-- Tails precede what is issued afterwards.
use Rattle.std.proofs.Common.{◌≡◌, ◌≢◌, ◌⊎◌, ℕ, ◌<◌, ◌≤◌, List, [], ◌∷◌, length, map, Bool, true, false, refl, sym, ap, ◌∙◌, subst, inl, inr, arith, Some, None, Option}
use Rattle.std.specs.Prelude.{nat_lt, nat_le, ◌==◌, slice_index_or}
use Rattle.tg_base.specs.Clusters.{Header}
use Rattle.tg_base.specs.Layouts.{Layout}
use Rattle.tg_base.specs.declared.ids.NodeId.{NodeId}
use Rattle.tg_base.specs.declared.ids.Oid.{Oid}
use Rattle.tg_base.specs.declared.ids.Role.TheVariants as role
use Rattle.tg_base.specs.declared.marks.StreamLink.{StreamLink}
use Rattle.tg_base.specs.declared.msg.Msg.{Msg}
use Rattle.tg_base.specs.declared.msg.Msg.TheVariants as msg
use Rattle.tg_base.specs.declared.packet.Out.{Out}
use Rattle.tg_base.specs.declared.packet.Packet.{Packet}
use Rattle.tg_kind.specs.Meaning.{Meaning}
use Rattle.tg_protocol.specs.Words.{seqr_id, unit_id}
use Rattle.tg_protocol.specs.Layouts.{first_layout}
use Rattle.tg_protocol.specs.Requests.{out, awaits, drawn_from}
use Rattle.tg_protocol.specs.Replies.{reply}
use Rattle.tg_protocol.specs.Cells.{Place, CellWork, Puts, Gets, Fills, Copies, Probes, work_asks, CellJob, cell_asks, cell_feed}
use Rattle.tg_protocol.specs.Sequencers.{SeqrState, SeqrTurn, scanning, new_seqr, links_of, scan_asks, seqr_asks, scan_turn, fed_if, scan_fed, answers, begun, stand_answer, issue, on_token, unfenced, own_epoch, on_learn, learn_or_old, seqr_step, seqr_tick}
use Rattle.tg_protocol.specs.Chosen.{IsDecided}
use Rattle.tg_protocol.specs.Worlds.{World, start, packet_of}
use Rattle.tg_protocol.specs.Runs.{Moves, Reaches, Passes, run}
use Rattle.tg_law_layouts.specs.Moves.After.{after}
use Rattle.tg_law_layouts.specs.Moves.Configs.{Config, config, seqr_in}
use Rattle.tg_law_layouts.specs.Moves.Telling.{is_request}
use Rattle.tg_law_layouts.proofs.Moves.Growth.{IsCalm, by_seqr}
use Rattle.tg_law_layouts.proofs.Moves.Lists.{contained, at_set}
use Rattle.tg_law_layouts.proofs.Moves.Members.{Has, has_left, has_either, has_map, has_filter, has_contained}
use Rattle.tg_law_layouts.proofs.Moves.Scripts.{run_both}
use Rattle.tg_law_layouts.proofs.Moves.Moves.{Cases, Comes, seqr_turn, SeqrInput, Hears, Ticks, Keeps, cases_map, keeps_above, run_keeps}
use Rattle.tg_law_layouts.proofs.Requests.Told.{NumbersOnce}
use Rattle.tg_law_layouts.proofs.Requests.Numbers.{numbers_once}
use Rattle.tg_law_layouts.specs.Layouts.Decisions.{IsOfDecided}
use Rattle.tg_law_layouts.proofs.Layouts.Deciding.{one_layout, layouts_are_sound}
use Rattle.tg_law_cells.specs.Tokens.Issuing.{IsNamed}
use Rattle.tg_law_cells.proofs.Tokens.Going.{Went, Stays, Begins, Scans, Jumps, Issues}
use Rattle.tg_law_cells.proofs.Tokens.Issues.{Asked, same_asked, token_epoch, Issuing, Low, low_keeps, low_holds, turned, old_asked, old_or_new, new_is, new_asked, New, asked_of}
use Rattle.tg_law_cells.proofs.Tokens.Named.{issuer_is_named}
use Rattle.tg_law_cells.proofs.Homes.Homes.{settled_is_below, starts_rise}
use Rattle.tg_law_cells.specs.Order.Tails.{ToldTail, TailsPrecede, ConfirmedTail, IsSettledBelow, ConfirmedPrecede, EachPassed}

-- A sequencer is past a tail of an epoch: it stands in a later one, or has scanned the log and issues from there on.
pub record Passed (z : SeqrState) (e t : ℕ) : Type 0 where
  pub up : e ≤ z.epoch
  pub here : e ≡ z.epoch → (z.proj.start ≤ z.next) × (t ≤ z.next)

pub passed_on : (s z : SeqrState) (e t : ℕ) → Went s z → Passed s e t → Passed z e t
passed_on s z e t (Stays same n l) p = record {
  up = let u = p.up in let a = same.epoch in omega (arith, u, a);
  here = λ i. let k = p.here (i ∙ same.epoch) in let a = k.1 in (subst (λ (x : ℕ). z.proj.start ≤ x) (sym n) (subst (λ (q : Layout). q.start ≤ s.next) (sym same.proj) k.0), omega (arith, a, n));
}
passed_on s z e t (Begins q less i j n l) p = record { up = let u = p.up in omega (arith, less, i, u); here = λ x. let u = p.up in absurd (omega (arith, less, i, u, x)) }
passed_on s z e t (Scans c same less n l) p = record {
  up = let u = p.up in let a = same.epoch in omega (arith, u, a);
  here = λ i. let k = (p.here (i ∙ same.epoch)).0 in absurd (omega (arith, k, less));
}
passed_on s z e t (Jumps b same less past n l) p = record {
  up = let u = p.up in let a = same.epoch in omega (arith, u, a);
  here = λ i. let k = (p.here (i ∙ same.epoch)).0 in absurd (omega (arith, k, less));
}
passed_on s z e t (Issues os same le n l) p = record {
  up = let u = p.up in let a = same.epoch in omega (arith, u, a);
  here = λ i.
      let k = p.here (i ∙ same.epoch) in
      let a = k.1 in let b = k.0 in
      let c : s.proj.start ≤ z.next = omega (arith, b, n) in
      (subst (λ (q : Layout). q.start ≤ z.next) (sym same.proj) c, omega (arith, a, n));
}

pub not_scanning : (z : SeqrState) → scanning z ≡ false → z.proj.start ≤ z.next
not_scanning z e = by z.next z.proj.start e
  where
    by : (a b : ℕ) → nat_lt a b ≡ false → b ≤ a
    by a b h = grind arith

pub check_asks : (epoch : ℕ) (os : List Oid) (x : Msg) → x ≡ msg.Check epoch os → is_request x ≡ true
unfolding is_request
check_asks epoch os x is = subst (λ (y : Msg). is_request y ≡ true) (sym is) refl

-- What a sequencer's step answers with a tail.

abbrev IsTail : Msg → Bool
IsTail (msg.Tail t ls) = true
IsTail x = false

-- an answer that tells the next position as the tail, if it is one to a check
pub record IsAnswer (s : SeqrState) (from : NodeId) (rid : ℕ) (y : Msg) (o : Out) (tail : ℕ) : Type 0 where
  pub to : o.to ≡ from
  pub number : o.rid ≡ rid
  pub request : is_request y ≡ true
  pub tells : (e : ℕ) (os : List Oid) → y ≡ msg.Check e os → (e ≡ s.epoch) × (scanning s ≡ false) × (tail ≡ s.next)

abbrev Answers : SeqrState → NodeId → ℕ → Msg → List Out → Type 0
Answers s from rid y outs = (o : Out) (tail : ℕ) (ls : List StreamLink) → Has outs o → o.msg ≡ msg.Tail tail ls → IsAnswer s from rid y o tail

module _ (s : SeqrState) (from : NodeId) (rid : ℕ) (y : Msg) where
  not_tail : (x : Msg) (tail : ℕ) (ls : List StreamLink) → IsTail x ≡ false → x ≡ msg.Tail tail ls → ⊥
  not_tail x tail ls other e = differ (sym other ∙ ap IsTail e)
    where
      differ : false ≡ true → ⊥
      differ z = cc

  one_quiet : (to : NodeId) (r : ℕ) (x : Msg) → IsTail x ≡ false → Answers s from rid y (out to r x ∷ [])
  one_quiet to r x other o tail ls (inl e) is = absurd (not_tail x tail ls other (sym (ap (λ (z : Out). z.msg) e) ∙ is))
  one_quiet to r x other o tail ls (inr i) is = absurd i

  work_quiet : (a : Place) (w : CellWork) → Answers s from rid y (work_asks a w)
  unfolding work_asks
  work_quiet a (Puts r d i) = one_quiet _ r (msg.Write a.epoch a.pos d) refl
  work_quiet a (Gets r) = one_quiet _ r (msg.Read a.epoch a.pos) refl
  work_quiet a (Fills r) = one_quiet _ r (msg.Fill a.epoch a.pos) refl
  work_quiet a (Copies r c i) = one_quiet _ r (msg.Copy a.epoch a.pos c) refl
  work_quiet a (Probes ws) = λ o tail ls has is. let k = has_map (λ (w : ℕ × ℕ). out (unit_id w.0) w.1 (msg.Has a.epoch a.pos a.pos 1)) ws o has in absurd (not_tail (msg.Has a.epoch a.pos a.pos 1) tail ls refl (sym (ap (λ (z : Out). z.msg) k.is) ∙ is))

  pub scan_quiet : (j : Option CellJob) → Answers s from rid y (scan_asks j)
  scan_quiet None o tail ls has is = absurd has
  scan_quiet (Some j) o tail ls has is = work_quiet j.place j.work o tail ls has is

  drawn_quiet : (n : ℕ) (z : SeqrState) → Answers s from rid y (drawn_from n (seqr_asks z))
  drawn_quiet n z o tail ls has is = scan_quiet z.scan o tail ls (has_filter _ (seqr_asks z) o has) is

  fed_quiet : (b : Bool) (t : SeqrState) → Answers s from rid y (fed_if b s t).sends
  fed_quiet true t = drawn_quiet s.rids t
  fed_quiet false t = λ o tail ls has is. absurd has

  scan_fed_quiet : (j : Option CellJob) (x : Msg) → Answers s from rid y (scan_fed s j from rid x).sends
  scan_fed_quiet None x = λ o tail ls has is. absurd has
  scan_fed_quiet (Some j) x = fed_quiet (awaits (cell_asks j) from rid) (scan_turn s (cell_feed j from.num (reply x) s.rids))

  unfenced_quiet : (f : Option ℕ) (t : SeqrTurn) → Answers s from rid y t.sends → Answers s from rid y (unfenced f s from rid t).sends
  unfenced_quiet None t h = h
  unfenced_quiet (Some e) t h = one_quiet from rid (msg.OldEpoch e) refl

  own_quiet : (b : Bool) (t : SeqrTurn) → (b ≡ true → Answers s from rid y t.sends) → Answers s from rid y (own_epoch b s from rid t).sends
  own_quiet true t h = unfenced_quiet s.fence t (h refl)
  own_quiet false t h = one_quiet from rid (msg.OldEpoch s.epoch) refl

  -- an answer to what isn't a check tells nothing here
  other_said : (x : Msg) → is_request y ≡ true → ((e : ℕ) (os : List Oid) → y ≡ msg.Check e os → ⊥) → Answers s from rid y (out from rid x ∷ [])
  other_said x r other o tail ls (inl e) is = record { to = ap (λ (z : Out). z.to) e; number = ap (λ (z : Out). z.rid) e; request = r; tells = λ f os c. absurd (other f os c) }
  other_said x r other o tail ls (inr i) is = absurd i

  both_quiet : (o : Out) (outs : List Out) → Answers s from rid y (o ∷ []) → Answers s from rid y outs → Answers s from rid y (o ∷ outs)
  both_quiet x outs h g o tail ls (inl e) is = h o tail ls (inl e) is
  both_quiet x outs h g o tail ls (inr i) is = g o tail ls i is

  learn_quiet : (q : Layout) (b : Bool) → is_request y ≡ true → ((e : ℕ) (os : List Oid) → y ≡ msg.Check e os → ⊥) → Answers s from rid y (on_learn s q from rid b).sends
  learn_quiet q true r other = both_quiet _ (drawn_from s.rids (seqr_asks (begun s q))) (other_said (stand_answer (begun s q) [] (scanning (begun s q))) r other) (drawn_quiet s.rids (begun s q))
  learn_quiet q false r other = unfenced_quiet s.fence _ (other_said (stand_answer s [] (scanning s)) r other)

  learn_or_quiet : (q : Layout) (b : Bool) → is_request y ≡ true → ((e : ℕ) (os : List Oid) → y ≡ msg.Check e os → ⊥) → Answers s from rid y (learn_or_old s q from rid b).sends
  learn_or_quiet q true r other = one_quiet from rid (msg.OldEpoch s.epoch) refl
  learn_or_quiet q false r other = learn_quiet q (nat_lt s.epoch q.epoch) r other

  issue_quiet : (os : List Oid) (b : Bool) → Answers s from rid y (issue s os from rid b).sends
  issue_quiet os true = one_quiet from rid (msg.Full s.limit) refl
  issue_quiet os false = one_quiet from rid (msg.Issued s.next (links_of s.lists os)) refl

  token_quiet : (os : List Oid) (b : Bool) → Answers s from rid y (on_token s os from rid b).sends
  token_quiet os true = one_quiet from rid (msg.Scanning s.next s.proj.start) refl
  token_quiet os false = issue_quiet os (nat_le s.limit s.next)

same_epoch : (e f : ℕ) → (e == f) ≡ true → e ≡ f
same_epoch e f h = grind arith

check_epoch : (e f : ℕ) (os oz : List Oid) → msg.Check e os ≡ msg.Check f oz → e ≡ f
check_epoch e f os oz h = cc

tail_pos : (p q : ℕ) (ls ks : List StreamLink) → msg.Tail p ls ≡ msg.Tail q ks → p ≡ q
tail_pos p q ls ks h = cc

checked : (s : SeqrState) (from : NodeId) (rid epoch : ℕ) (os : List Oid) (b : Bool) → scanning s ≡ b → epoch ≡ s.epoch → Answers s from rid (msg.Check epoch os) (answers s from rid (stand_answer s (links_of s.lists os) b)).sends
checked s from rid epoch os true is at = one_quiet s from rid (msg.Check epoch os) from rid (msg.Scanning s.next s.proj.start) refl
checked s from rid epoch os false is at = by
  where
    by : Answers s from rid (msg.Check epoch os) (out from rid (msg.Tail s.next (links_of s.lists os)) ∷ [])
    by o tail ls (inl e) told = record {
      to = ap (λ (z : Out). z.to) e;
      number = ap (λ (z : Out). z.rid) e;
      request = check_asks epoch os (msg.Check epoch os) refl;
      tells = λ f oz c. (sym (check_epoch epoch f os oz c) ∙ at, is, tail_pos tail s.next ls (links_of s.lists os) (sym told ∙ ap (λ (z : Out). z.msg) e));
    }
    by o tail ls (inr i) told = absurd i

no_check_learn : (q : Layout) (e : ℕ) (os : List Oid) → msg.Learn q ≡ msg.Check e os → ⊥
no_check_learn q e os h = cc

learn_asks : (q : Layout) → is_request (msg.Learn q) ≡ true
unfolding is_request
learn_asks q = refl

pub step_answers : (s : SeqrState) (from : NodeId) (rid : ℕ) (y : Msg) → Answers s from rid y (seqr_step s from rid y).sends
unfolding seqr_step
step_answers s from rid (msg.Learn q) = learn_or_quiet s from rid (msg.Learn q) q _ (learn_asks q) (λ e os c. no_check_learn q e os c)
step_answers s from rid (msg.Token e os) = own_quiet s from rid (msg.Token e os) (e == s.epoch) _ (λ b. token_quiet s from rid (msg.Token e os) os (scanning s))
step_answers s from rid (msg.Check e os) = own_quiet s from rid (msg.Check e os) (e == s.epoch) _ (λ b. checked s from rid e os (scanning s) refl (same_epoch e s.epoch b))
step_answers s from rid y = scan_fed_quiet s from rid y s.scan y

-- a tail that was told, with what its request asked
pub record Linked (ps : List Packet) (z : SeqrState) (a : Packet) (tail : ℕ) : Type 0 where
  pub ask : Packet
  pub has : Has ps ask
  pub to : ask.to ≡ a.from
  pub from : ask.from ≡ a.to
  pub rid : ask.rid ≡ a.rid
  pub request : is_request ask.msg ≡ true
  pub passed : (epoch : ℕ) (os : List Oid) → ask.msg ≡ msg.Check epoch os → Passed z epoch tail

linked_on : (ps qs : List Packet) (y z : SeqrState) (a : Packet) (tail : ℕ) → ((x : Packet) → Has ps x → Has qs x) → ((e t : ℕ) → Passed y e t → Passed z e t) → Linked ps y a tail → Linked qs z a tail
linked_on ps qs y z a tail up on k = record { ask = k.ask; has = up k.ask k.has; to = k.to; from = k.from; rid = k.rid; request = k.request; passed = λ e os is. on e tail (k.passed e os is) }

pub same_seqr : (s j : ℕ) → seqr_id s ≡ seqr_id j → s ≡ j
same_seqr s j e = ap (λ (n : NodeId). n.num) e

module _ (m : Meaning) where
  -- Every tail that a sequencer has told it is past.

  pub record Tails (c : Config m) : Type 0 where
    pub each : (s : ℕ) (a : Packet) (pos : ℕ) (ls : List StreamLink) → Has c.packets a → a.from ≡ seqr_id s → a.msg ≡ msg.Tail pos ls → Linked c.packets (seqr_in m c s) a pos

  tails_calm : (c : Config m) → Tails c → IsCalm m role.Seqr c Tails
  tails_calm c h d q = record {
    each = λ s a pos ls has from tells. subst (λ (x : SeqrState). Linked d.packets x a pos) (sym (same s))
        (linked_on c.packets d.packets (seqr_in m c s) (seqr_in m c s) a pos q.grows.sent (λ e t p. p) (h.each s a pos ls (q.old a has (ap (λ (n : NodeId). n.role) from)) from tells));
  }
    where
      same : (s : ℕ) → seqr_in m d s ≡ seqr_in m c s
      same s = λ i. slice_index_or (q.seqrs refl i) s (new_seqr s (q.cluster i).limit (first_layout (q.cluster i)))

  module _ (c : Config m) (low : Issuing m c) (h : Tails c) (s : ℕ) (t : SeqrTurn) (i : SeqrInput m c s t) (less : s < length c.seqrs) where
    abbrev z : SeqrState
    z = seqr_in m c s

    abbrev ps : List Packet
    ps = c.packets

    abbrev qs : List Packet
    qs = (seqr_turn m c s t).packets

    went : Went z t.now
    went = (turned m c s t (low.scans s) i).went

    on : (e u : ℕ) → Passed z e u → Passed t.now e u
    on e u p = passed_on z t.now e u went p

    more : (x : Packet) → Has ps x → Has qs x
    more x y = has_left ps _ x y

    heard : (p : Packet) → Comes m c p (seqr_id s) → (a : Packet) (pos : ℕ) (ls : List StreamLink) (o : Out) → a ≡ packet_of m (seqr_id s) o → IsAnswer z p.from p.rid p.msg o pos → Linked qs t.now a pos
    heard p comes a pos ls o is k = record {
      ask = p;
      has = more p comes.sent;
      to = comes.to_node ∙ sym (ap (λ (x : Packet). x.from) is);
      from = sym (ap (λ (x : Packet). x.to) is ∙ k.to);
      rid = sym (ap (λ (x : Packet). x.rid) is ∙ k.number);
      request = k.request;
      passed = λ epoch os asks.
          let u = k.tells epoch os asks in
          on epoch pos (record { up = let e = u.0 in omega (arith, e); here = λ e. (not_scanning z u.1, let n = u.2 in omega (arith, n)) });
    }

    said : (o : Out) (pos : ℕ) (ls : List StreamLink) (a : Packet) → a ≡ packet_of m (seqr_id s) o → a.msg ≡ msg.Tail pos ls → o.msg ≡ msg.Tail pos ls
    said o pos ls a is tells = sym (ap (λ (x : Packet). x.msg) is) ∙ tells

    new : (u : SeqrTurn) → SeqrInput m c s u → u ≡ t → (a : Packet) (pos : ℕ) (ls : List StreamLink) → a.msg ≡ msg.Tail pos ls → (o : Out) → Has u.sends o → a ≡ packet_of m (seqr_id s) o → Linked qs t.now a pos
    unfolding seqr_tick is_request
    new u (Hears p comes) same a pos ls tells o j is = heard p comes a pos ls o is (step_answers z p.from p.rid p.msg o pos ls j (said o pos ls a is tells))
    new u Ticks same a pos ls tells o j is = absurd (never (scan_quiet z (seqr_id s) 0 msg.Held z.scan o pos ls j (said o pos ls a is tells)).request)
      where
        never : is_request msg.Held ≡ true → ⊥
        never e = cc

    here : (a : Packet) (pos : ℕ) (ls : List StreamLink) → Has qs a → a.from ≡ seqr_id s → a.msg ≡ msg.Tail pos ls → Linked qs t.now a pos
    here a pos ls has from tells = by (has_either ps _ a has)
      where
        by : Has ps a ⊎ Has (map (packet_of m (seqr_id s)) t.sends) a → Linked qs t.now a pos
        by (inl x) = linked_on ps qs z t.now a pos more on (h.each s a pos ls x from tells)
        by (inr x) = let k = has_map (packet_of m (seqr_id s)) t.sends a x in new t i refl a pos ls tells k.of k.has k.is

    there : (j : ℕ) → j ≢ s → (a : Packet) (pos : ℕ) (ls : List StreamLink) → Has qs a → a.from ≡ seqr_id j → a.msg ≡ msg.Tail pos ls → Linked qs (seqr_in m c j) a pos
    there j other a pos ls has from tells = by (has_either ps _ a has)
      where
        by : Has ps a ⊎ Has (map (packet_of m (seqr_id s)) t.sends) a → Linked qs (seqr_in m c j) a pos
        by (inl x) = linked_on ps qs (seqr_in m c j) (seqr_in m c j) a pos more (λ e u p. p) (h.each j a pos ls x from tells)
        by (inr x) = let k = has_map (packet_of m (seqr_id s)) t.sends a x in absurd (other (same_seqr j s (sym from ∙ ap (λ (y : Packet). y.from) k.is)))

    tails_turned : Tails (seqr_turn m c s t)
    tails_turned = record {
      each = at_set c.seqrs s t.now (λ j. new_seqr j c.cluster.limit (first_layout c.cluster))
          (λ j x. (a : Packet) (pos : ℕ) (ls : List StreamLink) → Has qs a → a.from ≡ seqr_id j → a.msg ≡ msg.Tail pos ls → Linked qs x a pos) less here there;
    }

  tails_keep : (c : Config m) → Low m c → Tails c → Cases m c Tails
  tails_keep c low h = by_seqr m Tails c h (tails_calm c h) (λ s t i less. tails_turned c low.1 h s t i less)

  pub both_keeps : Keeps m (λ c. Low m c × Tails c)
  both_keeps = keeps_above m (Low m) Tails (low_keeps m) (λ c a f. cases_map m c Tails (λ d. Low m d → Tails d) (λ d g x. g) (tails_keep c a f))

  start_tails : (h : Header) → Tails (config m (start m h))
  unfolding start
  start_tails h = record { each = λ s a pos ls has. absurd has }

  pub both_hold : (h : Header) (xs : Moves m) → Low m (config m (after m h xs)) × Tails (config m (after m h xs))
  unfolding run
  both_hold h xs = run_keeps m (λ c. Low m c × Tails c) both_keeps xs (start m h) (low_holds m h [], start_tails h)

  -- So a sequencer is past each tail that it told.
  pub told_passed : (h : Header) (xs : Moves m) (s epoch tail : ℕ) → ToldTail m (after m h xs) s epoch tail → Passed (seqr_in m (config m (after m h xs)) s) epoch tail
  told_passed h xs s epoch tail t =
      let b = both_hold h xs in
      let k = b.1.each s t.answer tail t.links (has_contained _ t.answer t.answered) t.from_seqr t.tells in
      let same = (numbers_once m (config m (after m h xs)) b.0.0.0.0).same k.ask t.ask k.has (has_contained _ t.ask t.asked) k.request (check_asks epoch t.streams t.ask.msg t.asks) (k.from ∙ t.back) (k.to ∙ t.from_seqr ∙ sym t.to_seqr) (k.rid ∙ t.number) in
      k.passed epoch t.streams (same ∙ t.asks)

  -- What it issues afterwards.

  module _ (s0 e0 t0 : ℕ) (old : List Packet) where
    pub record Since (c : Config m) : Type 0 where
      pub passed : Passed (seqr_in m c s0) e0 t0
      pub each : (a : Packet) (p : ℕ) (ls : List StreamLink) (os : List Oid) → Has c.packets a → a.from ≡ seqr_id s0 → a.msg ≡ msg.Issued p ls → Asked c.packets a e0 os → Has old a ⊎ (t0 ≤ p)

    since_calm : (c : Config m) → Issuing m c → Since c → IsCalm m role.Seqr c (λ d. NumbersOnce d.packets → Since d)
    since_calm c low h d q n = record {
      passed = subst (λ (x : SeqrState). Passed x e0 t0) (sym same) h.passed;
      each = λ a p ls os has from is k.
          let i = q.old a has (ap (λ (x : NodeId). x.role) from) in
          h.each a p ls os i from is (old_asked m c d.packets s0 a p e0 ls os low n q.grows.sent i from is k);
    }
      where
        same : seqr_in m d s0 ≡ seqr_in m c s0
        same = λ i. slice_index_or (q.seqrs refl i) s0 (new_seqr s0 (q.cluster i).limit (first_layout (q.cluster i)))

    module _ (c : Config m) (low : Issuing m c) (h : Since c) (s : ℕ) (t : SeqrTurn) (i : SeqrInput m c s t) (less : s < length c.seqrs) (n : NumbersOnce (seqr_turn m c s t).packets) where
      abbrev now : Config m
      now = seqr_turn m c s t

      passed_turned : (j : ℕ) → j ≡ s0 → Passed (seqr_in m (seqr_turn m c s t) j) e0 t0
      passed_turned = at_set c.seqrs s t.now (λ j. new_seqr j c.cluster.limit (first_layout c.cluster)) (λ j x. j ≡ s0 → Passed x e0 t0) less
          (λ same. passed_on (seqr_in m c s) t.now e0 t0 (turned m c s t (low.scans s) i).went (subst (λ (j : ℕ). Passed (seqr_in m c j) e0 t0) (sym same) h.passed)) (λ j other same. subst (λ (x : ℕ). Passed (seqr_in m c x) e0 t0) (sym same) h.passed)

      each_turned : (a : Packet) (p : ℕ) (ls : List StreamLink) (os : List Oid) → Has now.packets a → a.from ≡ seqr_id s0 → a.msg ≡ msg.Issued p ls → Asked now.packets a e0 os → Has old a ⊎ (t0 ≤ p)
      each_turned a p ls os has from is k = by (old_or_new m c low s t (turned m c s t (low.scans s) i) less n a p ls is has)
        where
          by : Has c.packets a ⊎ New m c low s t (turned m c s t (low.scans s) i) less n a → Has old a ⊎ (t0 ≤ p)
          by (inl x) = h.each a p ls os x from is (old_asked m c now.packets s0 a p e0 ls os low n (λ y g. has_left c.packets _ y g) x from is k)
          by (inr w) =
              let at : p ≡ (seqr_in m c s).next = new_is m c low s t (turned m c s t (low.scans s) i) less n a p ls is w in
              let asked = new_asked m c low s t (turned m c s t (low.scans s) i) less n a w in
              let epoch : (seqr_in m c s).epoch ≡ e0 = token_epoch _ e0 _ os (same_asked now.packets n a _ e0 _ os asked k) in
              let same : s0 ≡ s = same_seqr s0 s (sym from ∙ ap (λ (y : Packet). y.from) w.is) in
              let past = ((subst (λ (j : ℕ). Passed (seqr_in m c j) e0 t0) same h.passed).here (sym epoch)).1 in
              inr (omega (arith, at, past))

      since_turned : Since (seqr_turn m c s t)
      since_turned = record { passed = passed_turned s0 refl; each = each_turned }

    since_keep : (c : Config m) → Low m c → Since c → Cases m c (λ d. NumbersOnce d.packets → Since d)
    since_keep c low h = by_seqr m (λ d. NumbersOnce d.packets → Since d) c (λ n. h) (since_calm c low.1 h) (λ s t i less n. since_turned c low.1 h s t i less n)

    pub since_keeps : Keeps m (λ c. Low m c × Since c)
    since_keeps = keeps_above m (Low m) Since (low_keeps m) (λ c a f. cases_map m c (λ d. NumbersOnce d.packets → Since d) (λ d. Low m d → Since d) (λ d g x. g (numbers_once m d x.0.0.0)) (since_keep c a f))

  module _ (h : Header) (xs ys : Moves m) where
    precede : TailsPrecede m (after m h xs) (run m ys (after m h xs))
    precede s epoch tail pos t i =
        by (since.1.each i.issued.answer pos i.links i.streams (has_contained _ i.issued.answer i.issued.answered) i.issued.from_seqr i.issued.issues (asked_of m (run m ys (after m h xs)) s epoch pos i.streams i.links i.issued))
      where
        since : Low m (config m (run m ys (after m h xs))) × Since s epoch tail (after m h xs).packets (config m (run m ys (after m h xs)))
        since = run_keeps m (λ c. Low m c × Since s epoch tail (after m h xs).packets c) (since_keeps s epoch tail (after m h xs).packets) ys (after m h xs)
            (low_holds m h xs, record { passed = told_passed h xs s epoch tail t; each = λ a p ls os has from is k. inl has })

        by : Has (after m h xs).packets i.issued.answer ⊎ (tail ≤ pos) → tail ≤ pos
        by (inl old) = absurd (i.since (contained (after m h xs).packets i.issued.answer old))
        by (inr le) = le

  module _ (h : Header) (ms : Moves m) (u v : World m) (r : Reaches m h ms v) (x : Passes m h ms u) where
    is_run : v ≡ run m x.after (after m h x.before)
    is_run = r.goes.is ∙ (ap (λ (zs : Moves m). run m zs (start m h)) x.split ∙ run_both m x.before x.after (start m h))

    pub precede_passed : TailsPrecede m u v
    precede_passed = subst (λ (y : World m). TailsPrecede m y v) (sym x.is) (subst (λ (y : World m). TailsPrecede m (after m h x.before) y) (sym is_run) (precede h x.before x.after))

    -- a layout of a later epoch starts at a confirmed tail or past it
    pub starts_past : (epoch tail : ℕ) → (t : ConfirmedTail m u v epoch tail) → (q : Layout) → IsOfDecided m v q → epoch < q.epoch → tail ≤ q.start
    starts_past epoch tail t q dq less = by t.confirmed
      where
        at : t.layout.epoch ≡ epoch
        at = (layouts_are_sound m h ms v r epoch t.layout t.decided).epoch

        by : (tail ≤ t.layout.start) ⊎ IsSettledBelow m v epoch tail → tail ≤ q.start
        by (inl le) =
            let rise = starts_rise m h ms v r t.layout q (subst (λ (e : ℕ). IsDecided m v e t.layout) (sym at) t.decided) dq (omega (arith, less, at)) in
            omega (arith, le, rise)
        by (inr b) =
            let early = b.early in
            let past = settled_is_below m h ms v r b.below b.cell b.settled q dq (omega (arith, early, less)) in
            let is = b.is in
            omega (arith, past, is)

    confirmed : ConfirmedPrecede m u v
    confirmed s epoch later tail pos t le i = by (split epoch later le)
      where
        split : (a b : ℕ) → a ≤ b → (a ≡ b) ⊎ (a < b)
        split a b k = grind arith

        positive : 0 < later
        positive = let p = t.some in omega (arith, p, le)

        named : IsNamed m v s later pos
        named = issuer_is_named m h ms v r s later pos i.streams i.links i.issued positive

        by : (epoch ≡ later) ⊎ (epoch < later) → tail ≤ pos
        by (inl same) =
            let one = one_layout m h ms v r later t.layout named.layout (subst (λ (e : ℕ). IsDecided m v e t.layout) same t.decided) named.decided in
            let seqr : t.layout.seq ≡ s = ap (λ (q : Layout). q.seq) one ∙ named.names in
            precede_passed s later tail pos (subst (λ (n : ℕ). ToldTail m u n later tail) seqr (subst (λ (e : ℕ). ToldTail m u t.layout.seq e tail) same t.told)) i
        by (inr less) =
            let at = (layouts_are_sound m h ms v r later named.layout named.decided).epoch in
            let low = starts_past epoch tail t named.layout (subst (λ (e : ℕ). IsDecided m v e named.layout) (sym at) named.decided) (omega (arith, less, at)) in
            let past = named.past in
            omega (arith, low, past)

pub tails_precede : (m : Meaning) → EachPassed m (TailsPrecede m)
tails_precede m h ms u v r x = precede_passed m h ms u v r x

pub confirmed_tails_precede : (m : Meaning) → EachPassed m (ConfirmedPrecede m)
confirmed_tails_precede m h ms u v r x = confirmed m h ms u v r x
