-- Over all worlds, a sequencer issues in an epoch only where a layout of that epoch names it.
use Rattle.std.proofs.Common.{◌≡◌, ◌⊎◌, ℕ, zero, suc, ◌+◌, ◌<◌, ◌≤◌, List, [], length, map, Bool, true, false, refl, sym, ap, ◌∙◌, subst, inl, inr, arith}
use Rattle.std.specs.Prelude.{slice_index_or, ◌==◌}
use Rattle.tg_base.specs.Clusters.{Header}
use Rattle.tg_base.specs.Layouts.{Layout}
use Rattle.tg_base.specs.declared.ids.NodeId.{NodeId}
use Rattle.tg_base.specs.declared.ids.Oid.{Oid}
use Rattle.tg_base.specs.declared.ids.Role.TheVariants as role
use Rattle.tg_base.specs.declared.marks.StreamLink.{StreamLink}
use Rattle.tg_base.specs.declared.msg.Msg.{Msg}
use Rattle.tg_base.specs.declared.msg.Msg.TheVariants as msg
use Rattle.tg_base.specs.declared.packet.Packet.{Packet}
use Rattle.tg_kind.specs.Meaning.{Meaning}
use Rattle.tg_protocol.specs.Words.{seqr_id, numbers}
use Rattle.tg_protocol.specs.Layouts.{first_layout}
use Rattle.tg_protocol.specs.Sequencers.{SeqrState, SeqrTurn, new_seqr, first_epoch, seqr_tick}
use Rattle.tg_protocol.specs.Worlds.{World, start}
use Rattle.tg_protocol.specs.Runs.{Moves, Always, Reaches}
use Rattle.tg_protocol.specs.Chosen.{IsDecided}
use Rattle.tg_law_layouts.specs.Moves.After.{after}
use Rattle.tg_law_layouts.proofs.Moves.Members.{Has, has_contained}
use Rattle.tg_law_layouts.specs.Moves.Configs.{Config, config, seqr_in}
use Rattle.tg_law_layouts.specs.Layouts.Decisions.{IsOfDecided, TellsDecided}
use Rattle.tg_law_layouts.proofs.Moves.Lists.{contained, at_set}
use Rattle.tg_law_layouts.proofs.Moves.Moves.{Cases, seqr_turn, SeqrInput, Hears, Ticks, Keeps, cases_map, keeps_above, run_keeps}
use Rattle.tg_law_layouts.proofs.Moves.Growth.{IsCalm, by_seqr}
use Rattle.tg_law_layouts.proofs.Requests.Told.{NumbersOnce}
use Rattle.tg_law_layouts.proofs.Requests.Numbers.{numbers_once}
use Rattle.tg_law_layouts.proofs.Layouts.Deciding.{layouts_are_known, one_layout}
use Rattle.tg_law_cells.specs.Tokens.Issuing.{IssuerNamed, OneIssuer}
use Rattle.tg_law_cells.proofs.Tokens.Issues.{Asked, same_asked, token_epoch, Issuing, Turned, turned, old_asked, New, more, old_or_new, new_is, new_asked, Low, low_keeps, start_low, asked_of}
use Rattle.tg_law_cells.proofs.Tokens.Naming.{Keeps', AsBefore, Learnt, step_keeps}

-- a layout was sent to a sequencer
pub record Said (ps : List Packet) (q : Layout) : Type 0 where
  pub packet : Packet
  pub sent : Has ps packet
  pub is : packet.msg ≡ msg.Learn q

abbrev pub Known : List Packet → Layout → Layout → Type 0
Known ps first q = (q ≡ first) ⊎ Said ps q

pub record Seq (ps : List Packet) (first : Layout) (s : ℕ) (x : SeqrState) : Type 0 where
  pub num : x.num ≡ s
  pub known : Known ps first x.proj
  pub own : 0 < x.epoch → (x.proj.epoch ≡ x.epoch) × (x.proj.seq ≡ s)

pub record Under (ps : List Packet) (first : Layout) (s e p : ℕ) : Type 0 where
  pub layout : Layout
  pub known : Known ps first layout
  pub epoch : layout.epoch ≡ e
  pub seq : layout.seq ≡ s
  pub past : layout.start ≤ p

same_seqr : (s j : ℕ) → seqr_id s ≡ seqr_id j → s ≡ j
same_seqr s j e = ap (λ (n : NodeId). n.num) e

module _ (ps qs : List Packet) (more' : (x : Packet) → Has ps x → Has qs x) (first : Layout) where
  known_grows : (q : Layout) → Known ps first q → Known qs first q
  known_grows q (inl e) = inl e
  known_grows q (inr k) = inr (record { packet = k.packet; sent = more' k.packet k.sent; is = k.is })

  seq_grows : (s : ℕ) (x : SeqrState) → Seq ps first s x → Seq qs first s x
  seq_grows s x k = record { num = k.num; known = known_grows x.proj k.known; own = k.own }

  under_grows : (s e p : ℕ) → Under ps first s e p → Under qs first s e p
  under_grows s e p k = record { layout = k.layout; known = known_grows k.layout k.known; epoch = k.epoch; seq = k.seq; past = k.past }

  seq_on : (s : ℕ) (x t : SeqrState) (y : Packet) → Has ps y → Seq ps first s x → Keeps' x y.msg t → Seq qs first s t
  seq_on s x t y has k (AsBefore a b c) = record {
    num = a ∙ k.num;
    known = subst (λ q. Known qs first q) (sym b) (known_grows x.proj k.known);
    own = λ l. let z = k.own (subst (λ n. 0 < n) c l) in (subst (λ q. q.epoch ≡ t.epoch) (sym b) (z.0 ∙ sym c), subst (λ q. q.seq ≡ s) (sym b) z.1);
  }
  seq_on s x t y has k (Learnt a b c d) = record { num = a ∙ k.num; known = inr (record { packet = y; sent = more' y has; is = b }); own = λ l. (c, d ∙ k.num) }

module _ (m : Meaning) where
  pub record Naming (c : Config m) : Type 0 where
    pub seqs : (s : ℕ) → Seq c.packets (first_layout c.cluster) s (seqr_in m c s)
    pub under : (s : ℕ) (a : Packet) (p e : ℕ) (ls : List StreamLink) (os : List Oid) → Has c.packets a → a.from ≡ seqr_id s → a.msg ≡ msg.Issued p ls → Asked c.packets a e os → 0 < e → Under c.packets (first_layout c.cluster) s e p

  calm : (c : Config m) → Issuing m c → Naming c → IsCalm m role.Seqr c (λ d. NumbersOnce d.packets → Naming d)
  calm c h k d q n = record {
    seqs = λ s. subst (λ (x : SeqrState). Seq d.packets (first_layout d.cluster) s x) (sym (same s)) (subst (λ (x : Header). Seq d.packets (first_layout x) s (seqr_in m c s)) (sym q.cluster) (seq_grows c.packets d.packets q.grows.sent _ s _ (k.seqs s)));
    under = λ s a p e ls os has from is asked pos. subst (λ (x : Header). Under d.packets (first_layout x) s e p) (sym q.cluster) (under_grows c.packets d.packets q.grows.sent _ s e p
        (k.under s a p e ls os (old s a has from) from is (old_asked m c d.packets s a p e ls os h n q.grows.sent (old s a has from) from is asked) pos));
  }
    where
      same : (s : ℕ) → seqr_in m d s ≡ seqr_in m c s
      same s = λ i. slice_index_or (q.seqrs refl i) s (new_seqr s (q.cluster i).limit (first_layout (q.cluster i)))

      old : (s : ℕ) (a : Packet) → Has d.packets a → a.from ≡ seqr_id s → Has c.packets a
      old s a has from = q.old a has (ap (λ (n : NodeId). n.role) from)

  module _ (c : Config m) (h : Issuing m c) (k : Naming c) (s : ℕ) (t : SeqrTurn) (g : Turned m c s t) (less : s < length c.seqrs) (n : NumbersOnce (seqr_turn m c s t).packets) where
    abbrev rs : List Packet
    rs = (seqr_turn m c s t).packets

    abbrev first : Layout
    first = first_layout c.cluster

    grown : (x : Packet) → Has c.packets x → Has rs x
    grown x y = more m c h s t g less n x y

    under_on : (j : ℕ) (a : Packet) (p e : ℕ) (ls : List StreamLink) (os : List Oid) → a.from ≡ seqr_id j → a.msg ≡ msg.Issued p ls → Asked rs a e os → 0 < e → Has c.packets a ⊎ New m c h s t g less n a → Under rs first j e p
    under_on j a p e ls os from is x pos (inl old) = under_grows c.packets rs grown first j e p (k.under j a p e ls os old from is (old_asked m c rs j a p e ls os h n grown old from is x) pos)
    under_on j a p e ls os from is x pos (inr w) =
        let i = token_epoch e _ os _ (same_asked rs n a e _ os _ x (new_asked m c h s t g less n a w)) in
        let z = (k.seqs s).own (subst (λ y. 0 < y) i pos) in
        let there = same_seqr j s (sym from ∙ ap (λ (y : Packet). y.from) w.is) in
        let ready = w.issue.ready in
        let at = new_is m c h s t g less n a p ls is w in
        record { layout = (seqr_in m c s).proj; known = known_grows c.packets rs grown first _ (k.seqs s).known; epoch = z.0 ∙ sym i; seq = z.1 ∙ sym there; past = omega (arith, ready, at) }

    seq_now : (u : SeqrTurn) → SeqrInput m c s u → ((x : Packet) → Has c.packets x → Has rs x) → Seq rs first s u.now
    unfolding seqr_tick
    seq_now u (Hears p comes) f = seq_on c.packets rs f first s (seqr_in m c s) _ p comes.sent (k.seqs s) (step_keeps (seqr_in m c s) p.from p.rid p.msg)
    seq_now u Ticks f = seq_grows c.packets rs f first s _ (k.seqs s)

    naming_on : SeqrInput m c s t → Naming (seqr_turn m c s t)
    naming_on i = record {
      seqs = at_set c.seqrs s t.now (λ j. new_seqr j c.cluster.limit (first_layout c.cluster)) (λ j x. Seq rs first j x) less (seq_now t i grown) (λ j other. seq_grows c.packets rs grown first j _ (k.seqs j));
      under = λ j a p e ls os has from is x pos. under_on j a p e ls os from is x pos (old_or_new m c h s t g less n a p ls is has);
    }

  naming_keep : (c : Config m) → Issuing m c → Naming c → Cases m c (λ d. NumbersOnce d.packets → Naming d)
  naming_keep c h k = by_seqr m (λ d. NumbersOnce d.packets → Naming d) c (λ n. k) (calm c h k) (λ s t i less n. naming_on c h k s t (turned m c s t (h.scans s) i) less n i)

  at_number : (f : ℕ → SeqrState) (n b k j : ℕ) → j ≡ b + k → slice_index_or (map f (numbers n b)) k (f j) ≡ f j
  at_number f zero b k j e = refl
  at_number f (suc n) b zero j e = ap f (sym (let i : j ≡ b = omega (arith, e) in i))
  at_number f (suc n) b (suc k) j e = at_number f n (b + 1) k j (omega (arith, e))

  first_own : (n : ℕ) (b : Bool) → (n == 0) ≡ b → 0 < first_epoch b → (1 ≡ first_epoch b) × (0 ≡ n)
  first_own n true e l = (refl, zero_of n e)
    where
      zero_of : (n : ℕ) → (n == 0) ≡ true → 0 ≡ n
      zero_of n e = grind arith
  first_own n false e l = absurd (omega (arith, l))

  start_seq : (h : Header) (s : ℕ) → Seq [] (first_layout h) s (new_seqr s h.limit (first_layout h))
  unfolding new_seqr
  start_seq h s = record { num = refl; known = inl refl; own = λ l. first_own s _ refl l }

  start_naming : (h : Header) → Naming (config m (start m h))
  unfolding start
  start_naming h = record {
    seqs = λ s. subst (λ (x : SeqrState). Seq [] (first_layout h) s x) (sym (at_number (λ n. new_seqr n h.limit (first_layout h)) h.seqs 0 s s (omega arith))) (start_seq h s);
    under = λ s a p e ls os has. absurd has;
  }

  keeps : Keeps m (λ c. Low m c × Naming c)
  keeps = keeps_above m (Low m) Naming (low_keeps m) (λ c a f. cases_map m c (λ d. NumbersOnce d.packets → Naming d) (λ d. Low m d → Naming d) (λ d g x. g (numbers_once m d x.0.0.0)) (naming_keep c a.1 f))

  pub naming_holds : (h : Header) (xs : Moves m) → Naming (config m (after m h xs))
  naming_holds h xs = (run_keeps m (λ c. Low m c × Naming c) keeps xs (start m h) (start_low m h, start_naming h)).1

  module _ (h : Header) (ms : Moves m) (w : World m) (r : Reaches m h ms w) where
    naming : Naming (config m w)
    naming = subst (λ (v : World m). Naming (config m v)) (sym r.goes.is) (naming_holds h ms)

    decided_of : (q : Layout) → Known w.packets (first_layout w.cluster) q → IsOfDecided m w q
    decided_of q (inl e) = inl (ap (λ (x : Layout). x.epoch) e, e)
    decided_of q (inr k) = subst (λ (y : Msg). TellsDecided m w y) k.is ((layouts_are_known m h ms w r).sent k.packet (contained _ k.packet k.sent))

    named_here : IssuerNamed m w
    named_here s e p os ls i pos =
        let u = naming.under s i.answer p e ls os (has_contained _ i.answer i.answered) i.from_seqr i.issues (asked_of m w s e p os ls i) pos in
        record { layout = u.layout; decided = subst (λ (n : ℕ). IsDecided m w n u.layout) u.epoch (decided_of u.layout u.known); names = u.seq; past = u.past }

    one_issuer_here : OneIssuer m w
    one_issuer_here s z e p at os oz ls ks a b pos =
        let u = named_here s e p os ls a pos in
        let v = named_here z e at oz ks b pos in
        sym u.names ∙ (ap (λ (x : Layout). x.seq) (one_layout m h ms w r e u.layout v.layout u.decided v.decided) ∙ v.names)

  pub issuer_is_named : Always m (IssuerNamed m)
  issuer_is_named = named_here

  pub one_issuer : Always m (OneIssuer m)
  one_issuer = one_issuer_here
