-- What a sequencer tells with a tail, or with a position that it issues: links below it, and no more than it issues next.
use Rattle.std.proofs.Common.{◌≡◌, ◌≢◌, ◌⊎◌, ℕ, ◌+◌, ◌<◌, ◌≤◌, List, [], ◌∷◌, length, map, true, false, refl, sym, ap, ◌∙◌, subst, inl, inr, arith, Some, None, Option}
use Rattle.std.specs.Prelude.{min, slice_index_or}
use Rattle.tg_base.specs.Clusters.{Header}
use Rattle.tg_base.specs.declared.ids.NodeId.{NodeId}
use Rattle.tg_base.specs.declared.ids.Oid.{Oid}
use Rattle.tg_base.specs.declared.ids.Role.TheVariants as role
use Rattle.tg_base.specs.declared.marks.StreamLink.{StreamLink}
use Rattle.tg_base.specs.declared.msg.Msg.{Msg}
use Rattle.tg_base.specs.declared.msg.Msg.TheVariants as msg
use Rattle.tg_base.specs.declared.packet.Out.{Out}
use Rattle.tg_base.specs.declared.packet.Packet.{Packet}
use Rattle.tg_kind.specs.Meaning.{Meaning}
use Rattle.tg_protocol.specs.Words.{seqr_id, unit_id, numbers}
use Rattle.tg_protocol.specs.Layouts.{first_layout}
use Rattle.tg_protocol.specs.Requests.{out}
use Rattle.tg_protocol.specs.Cells.{Place, CellWork, Puts, Gets, Fills, Copies, Probes, CellJob, work_asks}
use Rattle.tg_protocol.specs.Sequencers.{SeqrState, SeqrTurn, new_seqr, links_of, with_positions, cell_streams, scan_asks, seqr_tick}
use Rattle.tg_protocol.specs.Worlds.{start, packet_of}
use Rattle.tg_protocol.specs.Runs.{Moves}
use Rattle.tg_law_layouts.specs.Moves.After.{after}
use Rattle.tg_law_layouts.specs.Moves.Configs.{Config, config, seqr_in}
use Rattle.tg_law_layouts.specs.Moves.Telling.{is_request}
use Rattle.tg_law_layouts.proofs.Moves.Lists.{at_map, at_set}
use Rattle.tg_law_layouts.proofs.Moves.Members.{Has, has_left, has_either, has_map}
use Rattle.tg_law_layouts.proofs.Moves.Moves.{seqr_turn, SeqrInput, Hears, Ticks}
use Rattle.tg_law_layouts.proofs.Moves.Growth.{IsCalm, by_seqr}
use Rattle.tg_law_cells.proofs.Tokens.Going.{Went, Stays, Begins, Scans, Jumps, Issues}
use Rattle.tg_law_cells.proofs.Tokens.Issues.{Turned, turned, low_holds}
use Rattle.tg_law_cells.proofs.Tokens.Backs.{Falls, backs, pushes}
use Rattle.tg_law_cells.proofs.Tokens.Listing.{lists_hold}
use Rattle.tg_law_walks.specs.Lists.Telling.{asks_links, tells_links}
use Rattle.tg_law_walks.proofs.Lists.Telling.{step_told}
use Rattle.tg_law_headline.proofs.Issues.Bounds.{AllBelow, LinksBelow}
use Rattle.tg_law_headline.proofs.Issues.Along.{along}

next_min : (n b s : ℕ) → n < b → n < s → n ≤ min b s
next_min n b s x y = grind arith

all_more : (b c : ℕ) (xs : List ℕ) → b ≤ c → AllBelow b xs → AllBelow c xs
all_more b c [] le k = tt
all_more b c (x ∷ xs) le k = (let a = k.0 in omega (arith, a, le), all_more b c xs le k.1)

falls_all : (p : ℕ) (xs : List ℕ) → Falls p xs → AllBelow (p + 1) xs
falls_all p [] f = tt
falls_all p (x ∷ xs) f = (let a = f.0 in omega (arith, a), all_more (x + 1) (p + 1) xs (let a = f.0 in omega (arith, a)) (falls_all x xs f.1))

-- of each stream, what it lists lies below what it issues next
below_on : (s t : SeqrState) → Went s t → (o : Oid) → Falls s.next (backs s.lists o) → AllBelow s.next (backs s.lists o) → AllBelow t.next (backs t.lists o)
below_on s t (Stays same n l) o f k = subst (λ x. AllBelow x (backs t.lists o)) (sym n) (subst (λ ls. AllBelow s.next (backs ls o)) (sym l) k)
below_on s t (Begins q less i j n l) o f k = subst (λ ls. AllBelow t.next (backs ls o)) (sym l) tt
below_on s t (Scans c same less n l) o f k = subst (λ ls. AllBelow t.next (backs ls o)) (sym l) (subst (λ x. AllBelow x (backs (with_positions s.next (cell_streams c) s.lists) o)) (sym n) (falls_all s.next _ (pushes s.next o (cell_streams c) s.lists f).falls))
below_on s t (Jumps b same less past n l) o f k = subst (λ ls. AllBelow t.next (backs ls o)) (sym l) (all_more s.next t.next _ (subst (λ x. s.next ≤ x) (sym n) (next_min s.next b s.proj.start past less)) k)
below_on s t (Issues os same le n l) o f k = subst (λ ls. AllBelow t.next (backs ls o)) (sym l) (subst (λ x. AllBelow x (backs (with_positions s.next os s.lists) o)) (sym n) (falls_all s.next _ (pushes s.next o os s.lists f).falls))

pub links_below : (t : ℕ) (ls : List StreamLink) (os : List Oid) → ((o : Oid) → AllBelow t (backs ls o)) → LinksBelow t (links_of ls os)
links_below t ls [] k = tt
links_below t ls (o ∷ os) k = (k o, links_below t ls os k)

-- in a later state
told_on : (s t : SeqrState) (e x : ℕ) → Went s t → e ≤ s.epoch → (e ≡ s.epoch → x ≤ s.next) → (e ≤ t.epoch) × (e ≡ t.epoch → x ≤ t.next)
told_on s t e x (Stays same n l) up h = (subst (λ y. e ≤ y) (sym same.epoch) up, λ i. subst (λ y. x ≤ y) (sym n) (h (i ∙ same.epoch)))
told_on s t e x (Begins q less i j n l) up h = (omega (arith, less, i, up), λ y. absurd (omega (arith, less, i, up, y)))
told_on s t e x (Scans c same less n l) up h = (subst (λ y. e ≤ y) (sym same.epoch) up, λ i. let k = h (i ∙ same.epoch) in omega (arith, k, n))
told_on s t e x (Jumps b same less past n l) up h = (subst (λ y. e ≤ y) (sym same.epoch) up, λ i. let k = h (i ∙ same.epoch) in let g = next_min s.next b s.proj.start past less in omega (arith, k, n, g))
told_on s t e x (Issues os same le n l) up h = (subst (λ y. e ≤ y) (sym same.epoch) up, λ i. let k = h (i ∙ same.epoch) in omega (arith, k, n))

abbrev pub asked_pair : ℕ → List Oid → Option (ℕ × List Oid)
asked_pair e os = Some (e, os)

abbrev pub told_pair : ℕ → List StreamLink → Option (ℕ × List StreamLink)
told_pair t ls = Some (t, ls)

-- an answer of this sequencer that tells links, and its request
pub record OurTail (ps : List Packet) (s : SeqrState) (a : Packet) (t : ℕ) (ls : List StreamLink) : Type 0 where
  pub ask : Packet
  pub has : Has ps ask
  pub to : ask.to ≡ a.from
  pub from : ask.from ≡ a.to
  pub rid : ask.rid ≡ a.rid
  pub request : is_request ask.msg ≡ true
  pub links : (e : ℕ) (os : List Oid) → asks_links ask.msg ≡ asked_pair e os → LinksBelow t ls
  pub up : (e : ℕ) (os : List Oid) → asks_links ask.msg ≡ asked_pair e os → (e ≤ s.epoch) × (e ≡ s.epoch → t ≤ s.next)

tail_grows : (ps qs : List Packet) (s : SeqrState) (a : Packet) (t : ℕ) (ls : List StreamLink) → ((x : Packet) → Has ps x → Has qs x) → OurTail ps s a t ls → OurTail qs s a t ls
tail_grows ps qs s a t ls g o = record { ask = o.ask; has = g o.ask o.has; to = o.to; from = o.from; rid = o.rid; request = o.request; links = o.links; up = o.up }

tail_on : (ps qs : List Packet) (s z : SeqrState) (a : Packet) (t : ℕ) (ls : List StreamLink) → ((x : Packet) → Has ps x → Has qs x) → Went s z → OurTail ps s a t ls → OurTail qs z a t ls
tail_on ps qs s z a t ls g w o = record { ask = o.ask; has = g o.ask o.has; to = o.to; from = o.from; rid = o.rid; request = o.request; links = o.links; up = λ e os i. let k = o.up e os i in told_on s z e t w k.0 k.1 }

-- what it asks of units tells none
one_quiet : (to : NodeId) (r : ℕ) (x : Msg) (o : Out) → tells_links x ≡ None → Has (out to r x ∷ []) o → tells_links o.msg ≡ None
one_quiet to r x o q (inl e) = ap (λ (y : Out). tells_links y.msg) e ∙ q
one_quiet to r x o q (inr h) = absurd h

work_quiet : (a : Place) (w : CellWork) (o : Out) → Has (work_asks a w) o → tells_links o.msg ≡ None
unfolding work_asks tells_links
work_quiet a (Puts r d i) o h = one_quiet _ r _ o refl h
work_quiet a (Gets r) o h = one_quiet _ r _ o refl h
work_quiet a (Fills r) o h = one_quiet _ r _ o refl h
work_quiet a (Copies r c i) o h = one_quiet _ r _ o refl h
work_quiet a (Probes ws) o h = let i = has_map (λ (w : ℕ × ℕ). out (unit_id w.0) w.1 (msg.Has a.epoch a.pos a.pos 1)) ws o h in ap (λ (y : Out). tells_links y.msg) i.is

scan_quiet : (j : Option CellJob) (o : Out) → Has (scan_asks j) o → tells_links o.msg ≡ None
scan_quiet None o h = absurd h
scan_quiet (Some j) o h = work_quiet j.place j.work o h

no_told : {X : Type 0} (t : ℕ) (ls : List StreamLink) → None ≡ told_pair t ls → X
no_told t ls e = absurd (cc)

same_seqr : (s j : ℕ) → seqr_id s ≡ seqr_id j → s ≡ j
same_seqr s j e = ap (λ (n : NodeId). n.num) e

module _ (m : Meaning) where
  pub record Tails (c : Config m) : Type 0 where
    pub below : (s : ℕ) (o : Oid) → AllBelow (seqr_in m c s).next (backs (seqr_in m c s).lists o)
    pub told : (s : ℕ) (a : Packet) (t : ℕ) (ls : List StreamLink) → Has c.packets a → a.from ≡ seqr_id s → tells_links a.msg ≡ told_pair t ls → OurTail c.packets (seqr_in m c s) a t ls

  calm : (c : Config m) → Tails c → IsCalm m role.Seqr c Tails
  calm c h d q = record {
    below = λ s o. subst (λ (x : SeqrState). AllBelow x.next (backs x.lists o)) (sym (same s)) (h.below s o);
    told = λ s a t ls has from is. subst (λ (x : SeqrState). OurTail d.packets x a t ls) (sym (same s)) (tail_grows c.packets d.packets _ a t ls q.grows.sent (h.told s a t ls (q.old a has (ap (λ (n : NodeId). n.role) from)) from is));
  }
    where
      same : (s : ℕ) → seqr_in m d s ≡ seqr_in m c s
      same s = λ i. slice_index_or (q.seqrs refl i) s (new_seqr s (q.cluster i).limit (first_layout (q.cluster i)))

  module _ (h : Header) (xs : Moves m) (k : Tails (config m (after m h xs))) (s : ℕ) (t : SeqrTurn) (i : SeqrInput m (config m (after m h xs)) s t) (less : s < length (after m h xs).seqrs) where
    abbrev c : Config m
    c = config m (after m h xs)

    abbrev z : SeqrState
    z = seqr_in m c s

    abbrev qs : List Packet
    qs = (seqr_turn m c s t).packets

    g : Turned m (config m (after m h xs)) s t
    g = turned m (config m (after m h xs)) s t ((low_holds m h xs).1.scans s) i

    grown : (x : Packet) → Has (after m h xs).packets x → Has (seqr_turn m (config m (after m h xs)) s t).packets x
    grown x y = has_left (after m h xs).packets _ x y

    -- of a new answer
    new_tail : (u : SeqrTurn) → SeqrInput m c s u → Went z u.now → (o : Out) (x : ℕ) (ls : List StreamLink) → Has u.sends o → tells_links o.msg ≡ told_pair x ls → OurTail qs u.now (packet_of m (seqr_id s) o) x ls
    unfolding seqr_tick
    new_tail u Ticks w o x ls has is = no_told x ls (sym (scan_quiet z.scan o has) ∙ is)
    new_tail u (Hears p comes) w o x ls has is =
        let a = step_told z p.from p.rid p.msg o x ls has is in
        record {
          ask = p;
          has = grown p comes.sent;
          to = comes.to_node;
          from = sym a.to;
          rid = sym a.number;
          request = a.request;
          links = λ e os asks. let l = a.links e os asks in subst (λ (ks : List StreamLink). LinksBelow x ks) (sym l.3) (subst (λ y. LinksBelow y (links_of z.lists os)) (sym l.2) (links_below z.next z.lists os (λ y. k.below s y)));
          up = λ e os asks. let l = a.links e os asks in told_on z u.now e x w (let n = l.0 in omega (arith, n)) (λ j. let n = l.2 in omega (arith, n));
        }

    here : (a : Packet) (x : ℕ) (ls : List StreamLink) → Has qs a → a.from ≡ seqr_id s → tells_links a.msg ≡ told_pair x ls → OurTail qs t.now a x ls
    here a x ls has from is = by (has_either (after m h xs).packets _ a has)
      where
        by : Has (after m h xs).packets a ⊎ Has (map (packet_of m (seqr_id s)) t.sends) a → OurTail qs t.now a x ls
        by (inl old) = tail_on (after m h xs).packets qs z t.now a x ls grown g.went (k.told s a x ls old from is)
        by (inr new) = let y = has_map (packet_of m (seqr_id s)) t.sends a new in subst (λ (b : Packet). OurTail qs t.now b x ls) (sym y.is) (new_tail t i g.went y.of x ls y.has (ap (λ (b : Packet). tells_links b.msg) (sym y.is) ∙ is))

    there : (j : ℕ) → j ≢ s → (a : Packet) (x : ℕ) (ls : List StreamLink) → Has qs a → a.from ≡ seqr_id j → tells_links a.msg ≡ told_pair x ls → OurTail qs (seqr_in m c j) a x ls
    there j other a x ls has from is = by (has_either (after m h xs).packets _ a has)
      where
        by : Has (after m h xs).packets a ⊎ Has (map (packet_of m (seqr_id s)) t.sends) a → OurTail qs (seqr_in m c j) a x ls
        by (inl old) = tail_grows (after m h xs).packets qs _ a x ls grown (k.told j a x ls old from is)
        by (inr new) = let y = has_map (packet_of m (seqr_id s)) t.sends a new in absurd (other (same_seqr j s (sym from ∙ ap (λ (b : Packet). b.from) y.is)))

    tails_on : Tails (seqr_turn m (config m (after m h xs)) s t)
    tails_on = record {
      below = at_set c.seqrs s t.now (λ j. new_seqr j c.cluster.limit (first_layout c.cluster)) (λ j (x : SeqrState). (o : Oid) → AllBelow x.next (backs x.lists o)) less (λ o. below_on z t.now g.went o ((lists_hold m h xs).falls s o) (k.below s o)) (λ j other o. k.below j o);
      told = at_set c.seqrs s t.now (λ j. new_seqr j c.cluster.limit (first_layout c.cluster)) (λ j x. (a : Packet) (y : ℕ) (ls : List StreamLink) → Has qs a → a.from ≡ seqr_id j → tells_links a.msg ≡ told_pair y ls → OurTail qs x a y ls) less here there;
    }

  start_below : (h : Header) (s : ℕ) (o : Oid) → AllBelow (new_seqr s h.limit (first_layout h)).next (backs (new_seqr s h.limit (first_layout h)).lists o)
  unfolding new_seqr
  start_below h s o = tt

  start_tails : (h : Header) → Tails (config m (start m h))
  unfolding start
  start_tails h = record {
    below = λ s o. at_map (λ n. new_seqr n h.limit (first_layout h)) (numbers h.seqs 0) s (new_seqr s h.limit (first_layout h)) (λ (x : SeqrState). AllBelow x.next (backs x.lists o)) (λ j. start_below h j o) (start_below h s o);
    told = λ s a t ls has. absurd has;
  }

  pub tails_hold : (h : Header) (xs : Moves m) → Tails (config m (after m h xs))
  tails_hold h xs = along m h xs Tails (λ ys e zs split k. by_seqr m Tails (config m (after m h ys)) k (calm (config m (after m h ys)) k) (λ s t i less. tails_on h ys k s t i less)) (start_tails h) xs [] (sym (Rattle.std.proofs.Common.append-nil xs))
