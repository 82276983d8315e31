-- A position is issued once in an epoch.
use Rattle.std.proofs.Common.{◌≡◌, ◌≢◌, ◌⊎◌, ℕ, ◌<◌, ◌≤◌, List, length, map, true, false, refl, sym, ap, ◌∙◌, subst, inl, inr, arith}
use Rattle.std.specs.Prelude.{slice_index_or}
use Rattle.tg_base.specs.Clusters.{Header}
use Rattle.tg_base.specs.declared.ids.NodeId.{NodeId}
use Rattle.tg_base.specs.declared.ids.Oid.{Oid}
use Rattle.tg_base.specs.declared.ids.Role.TheVariants as role
use Rattle.tg_base.specs.declared.marks.StreamLink.{StreamLink}
use Rattle.tg_base.specs.declared.msg.Msg.{Msg}
use Rattle.tg_base.specs.declared.msg.Msg.TheVariants as msg
use Rattle.tg_base.specs.declared.packet.Out.{Out}
use Rattle.tg_base.specs.declared.packet.Packet.{Packet}
use Rattle.tg_kind.specs.Meaning.{Meaning}
use Rattle.tg_protocol.specs.Words.{seqr_id, numbers}
use Rattle.tg_protocol.specs.Layouts.{first_layout}
use Rattle.tg_protocol.specs.Requests.{out}
use Rattle.tg_protocol.specs.Sequencers.{SeqrState, SeqrTurn, new_seqr, links_of, seqr_tick}
use Rattle.tg_protocol.specs.Worlds.{World, start, packet_of}
use Rattle.tg_protocol.specs.Runs.{Moves, Always}
use Rattle.tg_law_layouts.specs.Moves.After.{after}
use Rattle.tg_law_layouts.proofs.Moves.Always.{always}
use Rattle.tg_law_layouts.proofs.Moves.Members.{Has, has_left, has_either, has_map, has_contained}
use Rattle.tg_law_layouts.specs.Moves.Configs.{Config, config, seqr_in}
use Rattle.tg_law_layouts.specs.Moves.Telling.{is_request}
use Rattle.tg_law_layouts.proofs.Moves.Lists.{at_map, at_set}
use Rattle.tg_law_layouts.proofs.Moves.Moves.{Cases, Comes, seqr_turn, SeqrInput, Hears, Ticks, Keeps, cases_map, keeps_above, run_keeps}
use Rattle.tg_law_layouts.proofs.Moves.Growth.{IsCalm, by_seqr}
use Rattle.tg_law_layouts.proofs.Requests.Told.{NumbersOnce}
use Rattle.tg_law_layouts.proofs.Requests.Numbers.{numbers_once}
use Rattle.tg_law_layouts.proofs.Requests.Starts.{All, all_keeps, start_all}
use Rattle.tg_law_cells.specs.Tokens.Issuing.{is_issued, IssuedOnce}
use Rattle.tg_law_cells.specs.Tokens.Issuing as says
use Rattle.tg_law_cells.proofs.Tokens.Going.{ScanOk, Went, Stays, Begins, Scans, Jumps, Issues, IsIssue, seqr_goes, scan_silent}

-- the request that an answer was made to
pub record Asked (ps : List Packet) (a : Packet) (e : ℕ) (os : List Oid) : Type 0 where
  pub ask : Packet
  pub has : Has ps ask
  pub to : ask.to ≡ a.from
  pub from : ask.from ≡ a.to
  pub rid : ask.rid ≡ a.rid
  pub is : ask.msg ≡ msg.Token e os

pub asked_grows : (ps qs : List Packet) (a : Packet) (e : ℕ) (os : List Oid) → ((x : Packet) → Has ps x → Has qs x) → Asked ps a e os → Asked qs a e os
asked_grows ps qs a e os g k = record { ask = k.ask; has = g k.ask k.has; to = k.to; from = k.from; rid = k.rid; is = k.is }

pub token_asks : (x : Msg) (e : ℕ) (os : List Oid) → x ≡ msg.Token e os → is_request x ≡ true
unfolding is_request
token_asks x e os h = subst (λ (y : Msg). is_request y ≡ true) (sym h) refl

pub same_asked : (ps : List Packet) → NumbersOnce ps → (a : Packet) (e f : ℕ) (os oz : List Oid) → Asked ps a e os → Asked ps a f oz → msg.Token e os ≡ msg.Token f oz
same_asked ps n a e f os oz k l = sym k.is ∙ (n.same k.ask l.ask k.has l.has (token_asks _ e os k.is) (token_asks _ f oz l.is) (k.from ∙ sym l.from) (k.to ∙ sym l.to) (k.rid ∙ sym l.rid) ∙ l.is)

pub token_epoch : (e f : ℕ) (os oz : List Oid) → msg.Token e os ≡ msg.Token f oz → e ≡ f
token_epoch e f os oz h = cc

pub token_streams : (e f : ℕ) (os oz : List Oid) → msg.Token e os ≡ msg.Token f oz → os ≡ oz
token_streams e f os oz h = cc

pub issued_pos : (p q : ℕ) (ls ks : List StreamLink) → msg.Issued p ls ≡ msg.Issued q ks → p ≡ q
issued_pos p q ls ks h = cc

pub not_issued : (x : Msg) (p : ℕ) (ls : List StreamLink) → x ≡ msg.Issued p ls → is_issued x ≡ false → ⊥
unfolding is_issued
not_issued x p ls e f = cc

-- an answer that this sequencer has made
pub record Ours (ps : List Packet) (s : SeqrState) (a : Packet) (p : ℕ) : Type 0 where
  pub epoch : ℕ
  pub os : List Oid
  pub asked : Asked ps a epoch os
  pub up : epoch ≤ s.epoch
  pub here : epoch ≡ s.epoch → (s.proj.start ≤ p) × (p < s.next)

ours_grows : (ps qs : List Packet) (s : SeqrState) (a : Packet) (p : ℕ) → ((x : Packet) → Has ps x → Has qs x) → Ours ps s a p → Ours qs s a p
ours_grows ps qs s a p g o = record { epoch = o.epoch; os = o.os; asked = asked_grows ps qs a o.epoch o.os g o.asked; up = o.up; here = o.here }

-- in a later state
went_on : (s t : SeqrState) (e p : ℕ) → Went s t → e ≤ s.epoch → (e ≡ s.epoch → (s.proj.start ≤ p) × (p < s.next)) → (e ≤ t.epoch) × (e ≡ t.epoch → (t.proj.start ≤ p) × (p < t.next))
went_on s t e p (Stays same n l) up h = (subst (λ x. e ≤ x) (sym same.epoch) up, λ i. let k = h (i ∙ same.epoch) in (subst (λ q. q.start ≤ p) (sym same.proj) k.0, subst (λ x. p < x) (sym n) k.1))
went_on s t e p (Begins q less i j n l) up h = (omega (arith, less, i, up), λ x. absurd (omega (arith, less, i, up, x)))
went_on s t e p (Scans c same less n l) up h = (subst (λ x. e ≤ x) (sym same.epoch) up, λ i. let k = h (i ∙ same.epoch) in let a = k.0 in let b = k.1 in absurd (omega (arith, a, b, less)))
went_on s t e p (Jumps b same less past n l) up h = (subst (λ x. e ≤ x) (sym same.epoch) up, λ i. let k = h (i ∙ same.epoch) in let x = k.0 in let y = k.1 in absurd (omega (arith, x, y, less)))
went_on s t e p (Issues os same le n l) up h = (subst (λ x. e ≤ x) (sym same.epoch) up, λ i. let k = h (i ∙ same.epoch) in let x = k.1 in (subst (λ q. q.start ≤ p) (sym same.proj) k.0, omega (arith, x, n)))

ours_on : (ps qs : List Packet) (s t : SeqrState) (a : Packet) (p : ℕ) → ((x : Packet) → Has ps x → Has qs x) → Went s t → Ours ps s a p → Ours qs t a p
ours_on ps qs s t a p g w o = let k = went_on s t o.epoch p w o.up o.here in record { epoch = o.epoch; os = o.os; asked = asked_grows ps qs a o.epoch o.os g o.asked; up = k.0; here = k.1 }

same_seqr : (s j : ℕ) → seqr_id s ≡ seqr_id j → s ≡ j
same_seqr s j e = ap (λ (n : NodeId). n.num) e

same_issue : (s : SeqrState) (x y : Packet) (t : SeqrTurn) (o q : Out) → x ≡ y → IsIssue s x.from x.rid x.msg t o → IsIssue s y.from y.rid y.msg t q → o ≡ q
same_issue s x y t o q e i j = by (subst (λ (z : Packet). IsIssue s z.from z.rid z.msg t q) (sym e) j)
  where
    by : IsIssue s x.from x.rid x.msg t q → o ≡ q
    by k = i.is ∙ (ap (λ os. out x.from x.rid (msg.Issued s.next (links_of s.lists os))) (token_streams s.epoch s.epoch i.os k.os (sym i.asks ∙ k.asks)) ∙ sym k.is)

same_right : {X Y : Type 0} (u : X ⊎ Y) (x y : Y) → u ≡ inr x → u ≡ inr y → x ≡ y
same_right u x y e f = cc

module _ (m : Meaning) where
  -- What a sequencer's turn sends.

  -- it has heard a packet, and all that it issues is issued to that
  pub record Heard (c : Config m) (s : ℕ) (t : SeqrTurn) : Type 0 where
    pub ask : Packet
    pub comes : Comes m c ask (seqr_id s)
    pub each : (o : Out) → Has t.sends o → (is_issued o.msg ≡ false) ⊎ IsIssue (seqr_in m c s) ask.from ask.rid ask.msg t o

  pub record Turned (c : Config m) (s : ℕ) (t : SeqrTurn) : Type 0 where
    pub scan : ScanOk t.now
    pub went : Went (seqr_in m c s) t.now
    pub says : ((o : Out) → Has t.sends o → is_issued o.msg ≡ false) ⊎ Heard c s t

  pub turned : (c : Config m) (s : ℕ) (t : SeqrTurn) → ScanOk (seqr_in m c s) → SeqrInput m c s t → Turned c s t
  unfolding seqr_tick
  turned c s t ok (Hears p comes) = let g = seqr_goes (seqr_in m c s) ok p.from p.rid p.msg in record { scan = g.scan; went = g.went; says = inr (record { ask = p; comes = comes; each = g.says }) }
  turned c s t ok Ticks = record { scan = ok; went = Stays (record { epoch = refl; proj = refl }) refl refl; says = inl (λ o h. scan_silent (seqr_in m c s).scan o h) }

  pub record Issuing (c : Config m) : Type 0 where
    pub scans : (s : ℕ) → ScanOk (seqr_in m c s)
    pub ours : (s : ℕ) (a : Packet) (p : ℕ) (ls : List StreamLink) → Has c.packets a → a.from ≡ seqr_id s → a.msg ≡ msg.Issued p ls → Ours c.packets (seqr_in m c s) a p
    pub once : (s : ℕ) (a b : Packet) (p e : ℕ) (ls ks : List StreamLink) (os oz : List Oid) → Has c.packets a → Has c.packets b → a.from ≡ seqr_id s → b.from ≡ seqr_id s → a.msg ≡ msg.Issued p ls → b.msg ≡ msg.Issued p ks
        → Asked c.packets a e os → Asked c.packets b e oz → a ≡ b

  -- an answer that was there had its request then
  pub old_asked : (c : Config m) (qs : List Packet) (s : ℕ) (a : Packet) (p e : ℕ) (ls : List StreamLink) (os : List Oid) → Issuing c → NumbersOnce qs → ((x : Packet) → Has c.packets x → Has qs x) → Has c.packets a → a.from ≡ seqr_id s → a.msg ≡ msg.Issued p ls
      → Asked qs a e os → Asked c.packets a e os
  old_asked c qs s a p e ls os h n g has from is k =
      let o = h.ours s a p ls has from is in
      let same = same_asked qs n a o.epoch e o.os os (asked_grows c.packets qs a o.epoch o.os g o.asked) k in
      record { ask = o.asked.ask; has = o.asked.has; to = o.asked.to; from = o.asked.from; rid = o.asked.rid; is = o.asked.is ∙ same }

  calm : (c : Config m) → Issuing c → IsCalm m role.Seqr c (λ d. NumbersOnce d.packets → Issuing d)
  calm c h d q n = record {
    scans = λ s. subst ScanOk (sym (same s)) (h.scans s);
    ours = λ s a p ls has from is. subst (λ (x : SeqrState). Ours d.packets x a p) (sym (same s)) (ours_grows c.packets d.packets _ a p q.grows.sent (h.ours s a p ls (old s a has from) from is));
    once = λ s a b p e ls ks os oz has has' from from' is is' k l. h.once s a b p e ls ks os oz (old s a has from) (old s b has' from') from from' is is'
        (old_asked c d.packets s a p e ls os h n q.grows.sent (old s a has from) from is k) (old_asked c d.packets s b p e ks oz h n q.grows.sent (old s b has' from') from' is' l);
  }
    where
      same : (s : ℕ) → seqr_in m d s ≡ seqr_in m c s
      same s = λ i. slice_index_or (q.seqrs refl i) s (new_seqr s (q.cluster i).limit (first_layout (q.cluster i)))

      old : (s : ℕ) (a : Packet) → Has d.packets a → a.from ≡ seqr_id s → Has c.packets a
      old s a has from = q.old a has (ap (λ (n : NodeId). n.role) from)

  -- A sequencer's turn.

  module _ (c : Config m) (h : Issuing c) (s : ℕ) (t : SeqrTurn) (g : Turned c s t) (less : s < length c.seqrs) (n : NumbersOnce (seqr_turn m c s t).packets) where
    abbrev pub ps : List Packet
    ps = c.packets

    abbrev pub qs : List Packet
    qs = (seqr_turn m c s t).packets

    pub more : (x : Packet) → Has ps x → Has qs x
    more x y = has_left ps _ x y

    -- a new answer that issues
    pub record New (a : Packet) : Type 0 where
      pub hears : Heard c s t
      pub heard : g.says ≡ inr hears
      pub of : Out
      pub is : a ≡ packet_of m (seqr_id s) of
      pub issue : IsIssue (seqr_in m c s) hears.ask.from hears.ask.rid hears.ask.msg t of

    new_of : (a : Packet) (p : ℕ) (ls : List StreamLink) → a.msg ≡ msg.Issued p ls → (o : Out) → Has t.sends o → a ≡ packet_of m (seqr_id s) o → (x : ((o : Out) → Has t.sends o → is_issued o.msg ≡ false) ⊎ Heard c s t) → g.says ≡ x → New a
    new_of a p ls is o has e (inl f) said = absurd (not_issued o.msg p ls (sym (ap (λ (x : Packet). x.msg) e) ∙ is) (f o has))
    new_of a p ls is o has e (inr k) said = by (k.each o has)
      where
        by : (is_issued o.msg ≡ false) ⊎ IsIssue (seqr_in m c s) k.ask.from k.ask.rid k.ask.msg t o → New a
        by (inl f) = absurd (not_issued o.msg p ls (sym (ap (λ (x : Packet). x.msg) e) ∙ is) f)
        by (inr i) = record { hears = k; heard = said; of = o; is = e; issue = i }

    pub old_or_new : (a : Packet) (p : ℕ) (ls : List StreamLink) → a.msg ≡ msg.Issued p ls → Has qs a → Has ps a ⊎ New a
    old_or_new a p ls is has = by (has_either ps _ a has)
      where
        by : Has ps a ⊎ Has (map (packet_of m (seqr_id s)) t.sends) a → Has ps a ⊎ New a
        by (inl x) = inl x
        by (inr x) = let i = has_map (packet_of m (seqr_id s)) t.sends a x in inr (new_of a p ls is i.of i.has i.is g.says refl)

    pub new_is : (a : Packet) (p : ℕ) (ls : List StreamLink) → a.msg ≡ msg.Issued p ls → (w : New a) → p ≡ (seqr_in m c s).next
    new_is a p ls is w = issued_pos p _ ls _ (sym is ∙ (ap (λ (x : Packet). x.msg) w.is ∙ ap (λ (o : Out). o.msg) w.issue.is))

    pub new_asked : (a : Packet) (w : New a) → Asked qs a (seqr_in m c s).epoch w.issue.os
    new_asked a w = record {
      ask = w.hears.ask;
      has = more w.hears.ask w.hears.comes.sent;
      to = w.hears.comes.to_node ∙ sym (ap (λ (x : Packet). x.from) w.is);
      from = sym (ap (λ (x : Packet). x.to) w.is ∙ ap (λ (o : Out). o.to) w.issue.is);
      rid = sym (ap (λ (x : Packet). x.rid) w.is ∙ ap (λ (o : Out). o.rid) w.issue.is);
      is = w.issue.asks;
    }

    new_ours : (a : Packet) (p : ℕ) (ls : List StreamLink) → a.msg ≡ msg.Issued p ls → (w : New a) → Ours qs t.now a p
    new_ours a p ls is w = record {
      epoch = (seqr_in m c s).epoch;
      os = w.issue.os;
      asked = new_asked a w;
      up = subst (λ (x : SeqrState). (seqr_in m c s).epoch ≤ x.epoch) (sym w.issue.now) (omega arith);
      here = λ e. subst (λ (x : SeqrState). (x.proj.start ≤ p) × (p < x.next)) (sym w.issue.now) (let r = w.issue.ready in let k = new_is a p ls is w in (omega (arith, r, k), omega (arith, k)));
    }

    ours_here : (a : Packet) (p : ℕ) (ls : List StreamLink) → Has qs a → a.from ≡ seqr_id s → a.msg ≡ msg.Issued p ls → Ours qs t.now a p
    ours_here a p ls has from is = by (old_or_new a p ls is has)
      where
        by : Has ps a ⊎ New a → Ours qs t.now a p
        by (inl x) = ours_on ps qs _ t.now a p more g.went (h.ours s a p ls x from is)
        by (inr w) = new_ours a p ls is w

    ours_there : (j : ℕ) → j ≢ s → (a : Packet) (p : ℕ) (ls : List StreamLink) → Has qs a → a.from ≡ seqr_id j → a.msg ≡ msg.Issued p ls → Ours qs (seqr_in m c j) a p
    ours_there j other a p ls has from is = by (old_or_new a p ls is has)
      where
        by : Has ps a ⊎ New a → Ours qs (seqr_in m c j) a p
        by (inl x) = ours_grows ps qs _ a p more (h.ours j a p ls x from is)
        by (inr w) = absurd (other (same_seqr j s (sym from ∙ ap (λ (x : Packet). x.from) w.is)))

    -- a new answer and an old one aren't of one position and epoch
    not_both : (a b : Packet) (p e : ℕ) (ls ks : List StreamLink) (os oz : List Oid) → New a → Has ps b → a.from ≡ seqr_id s → b.from ≡ seqr_id s → a.msg ≡ msg.Issued p ls → b.msg ≡ msg.Issued p ks → Asked qs a e os → Asked qs b e oz → ⊥
    not_both a b p e ls ks os oz w old from from' is is' k l =
        let o = h.ours s b p ks old from' is' in
        let x = token_epoch _ e _ os (same_asked qs n a _ e _ os (new_asked a w) k) in
        let y = token_epoch _ e _ oz (same_asked qs n b o.epoch e o.os oz (asked_grows ps qs b o.epoch o.os more o.asked) l) in
        let z = (o.here (y ∙ sym x)).1 in
        let i = new_is a p ls is w in
        omega (arith, z, i)

    both_new : (a b : Packet) (p e : ℕ) (ls ks : List StreamLink) (os oz : List Oid) → New a → New b → a.msg ≡ msg.Issued p ls → b.msg ≡ msg.Issued p ks → Asked qs a e os → Asked qs b e oz → a ≡ b
    both_new a b p e ls ks os oz v w is is' k l =
        let same = same_issue (seqr_in m c s) v.hears.ask w.hears.ask t v.of w.of (ap (λ (x : Heard c s t). x.ask) (same_right g.says v.hears w.hears v.heard w.heard)) v.issue w.issue in
        v.is ∙ (ap (λ (o : Out). packet_of m (seqr_id s) o) same ∙ sym w.is)

    once_of : (j : ℕ) (a b : Packet) (p e : ℕ) (ls ks : List StreamLink) (os oz : List Oid) → a.from ≡ seqr_id j → b.from ≡ seqr_id j → a.msg ≡ msg.Issued p ls → b.msg ≡ msg.Issued p ks → Asked qs a e os → Asked qs b e oz → Has ps a ⊎ New a → Has ps b ⊎ New b → a ≡ b
    once_of j a b p e ls ks os oz from from' is is' k l (inl x) (inl y) = h.once j a b p e ls ks os oz x y from from' is is' (old_asked c qs j a p e ls os h n more x from is k) (old_asked c qs j b p e ks oz h n more y from' is' l)
    once_of j a b p e ls ks os oz from from' is is' k l (inr v) (inl y) = let i = ap (λ (x : Packet). x.from) v.is in absurd (not_both a b p e ls ks os oz v y i (from' ∙ (sym from ∙ i)) is is' k l)
    once_of j a b p e ls ks os oz from from' is is' k l (inl x) (inr w) = let i = ap (λ (x : Packet). x.from) w.is in absurd (not_both b a p e ks ls oz os w x i (from ∙ (sym from' ∙ i)) is' is l k)
    once_of j a b p e ls ks os oz from from' is is' k l (inr v) (inr w) = both_new a b p e ls ks os oz v w is is' k l

    issuing_on : Issuing (seqr_turn m c s t)
    issuing_on = record {
      scans = at_set c.seqrs s t.now (λ j. new_seqr j c.cluster.limit (first_layout c.cluster)) (λ j x. ScanOk x) less g.scan (λ j other. h.scans j);
      ours = at_set c.seqrs s t.now (λ j. new_seqr j c.cluster.limit (first_layout c.cluster)) (λ j x. (a : Packet) (p : ℕ) (ls : List StreamLink) → Has qs a → a.from ≡ seqr_id j → a.msg ≡ msg.Issued p ls → Ours qs x a p) less ours_here ours_there;
      once = λ j a b p e ls ks os oz has has' from from' is is' k l. once_of j a b p e ls ks os oz from from' is is' k l (old_or_new a p ls is has) (old_or_new b p ks is' has');
    }

  pub issuing_keep : (c : Config m) → Issuing c → Cases m c (λ d. NumbersOnce d.packets → Issuing d)
  issuing_keep c h = record {
    idle = λ n. h;
    unit = (side.unit);
    layout = side.layout;
    seqr = λ s t i less n. issuing_on c h s t (turned c s t (h.scans s) i) less n;
    client = side.client;
  }
    where
      side : Cases m c (λ d. NumbersOnce d.packets → Issuing d)
      side = by_seqr m (λ d. NumbersOnce d.packets → Issuing d) c (λ n. h) (calm c h) (λ s t i less n. issuing_on c h s t (turned c s t (h.scans s) i) less n)

  start_seqr : (h : Header) (s : ℕ) → ScanOk (new_seqr s h.limit (first_layout h))
  unfolding new_seqr
  start_seqr h s = record { below = λ j e. absurd (cc); at = λ j e. absurd (cc) }

  start_issuing : (h : Header) → Issuing (config m (start m h))
  unfolding start
  start_issuing h = record {
    scans = λ s. at_map (λ n. new_seqr n h.limit (first_layout h)) (numbers h.seqs 0) s (new_seqr s h.limit (first_layout h)) (λ (x : SeqrState). ScanOk x) (λ j. start_seqr h j) (start_seqr h s);
    ours = λ s a p ls has. absurd has;
    once = λ s a b p e ls ks os oz has. absurd has;
  }

  abbrev pub Low : Config m → Type 0
  Low c = All m c × Issuing c

  pub low_keeps : Keeps m Low
  low_keeps = keeps_above m (All m) Issuing (all_keeps m) (λ c a f. cases_map m c (λ d. NumbersOnce d.packets → Issuing d) (λ d. All m d → Issuing d) (λ d g x. g (numbers_once m d x.0.0)) (issuing_keep c f))

  pub start_low : (h : Header) → Low (config m (start m h))
  start_low h = (start_all m h, start_issuing h)

  pub low_holds : (h : Header) (xs : Moves m) → Low (config m (after m h xs))
  low_holds h xs = run_keeps m Low low_keeps xs (start m h) (start_low h)

  pub asked_of : (w : World m) (s e p : ℕ) (os : List Oid) (ls : List StreamLink) → (i : says.Issued m w s e p os ls) → Asked w.packets i.answer e os
  asked_of w s e p os ls i = record { ask = i.ask; has = has_contained w.packets i.ask i.asked; to = i.to_seqr ∙ sym i.from_seqr; from = sym i.back; rid = sym i.number; is = i.asks }

  once_here : (h : Header) (xs : Moves m) → IssuedOnce m (after m h xs)
  once_here h xs s e p os oz ls ks a b =
      (low_holds h xs).1.once s a.answer b.answer p e ls ks os oz (has_contained _ a.answer a.answered) (has_contained _ b.answer b.answered) a.from_seqr b.from_seqr a.issues b.issues
      (asked_of _ s e p os ls a) (asked_of _ s e p oz ks b)

  pub issued_once : Always m (IssuedOnce m)
  issued_once = always m (IssuedOnce m) once_here
