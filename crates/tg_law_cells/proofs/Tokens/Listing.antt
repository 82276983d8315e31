-- The lists of last positions that a sequencer gives: of the positions that it has issued in its epoch to a stream, one
-- is missing only where four others that aren't below it stand there.
use Rattle.std.proofs.Common.{◌≡◌, ◌≢◌, ◌⊎◌, ℕ, ◌<◌, ◌≤◌, List, length, refl, sym, ap, ◌∙◌, subst, inl, inr, arith}
use Rattle.std.specs.Prelude.{min, slice_index_or}
use Rattle.tg_base.specs.Clusters.{Header}
use Rattle.tg_base.specs.declared.ids.NodeId.{NodeId}
use Rattle.tg_base.specs.declared.ids.Oid.{Oid}
use Rattle.tg_base.specs.declared.ids.Role.TheVariants as role
use Rattle.tg_base.specs.declared.marks.StreamLink.{StreamLink}
use Rattle.tg_base.specs.declared.msg.Msg.TheVariants as msg
use Rattle.tg_base.specs.declared.packet.Out.{Out}
use Rattle.tg_base.specs.declared.packet.Packet.{Packet}
use Rattle.tg_kind.specs.Meaning.{Meaning}
use Rattle.tg_protocol.specs.Words.{seqr_id, numbers}
use Rattle.tg_protocol.specs.Layouts.{first_layout}
use Rattle.tg_protocol.specs.Sequencers.{SeqrState, SeqrTurn, new_seqr, links_of, issued, cell_streams}
use Rattle.tg_protocol.specs.Worlds.{start}
use Rattle.tg_protocol.specs.Runs.{Moves, Always}
use Rattle.tg_law_layouts.specs.Moves.After.{after}
use Rattle.tg_law_layouts.proofs.Moves.Always.{always}
use Rattle.tg_law_layouts.proofs.Moves.Members.{Has, has_contained}
use Rattle.tg_law_layouts.specs.Moves.Configs.{Config, config, seqr_in}
use Rattle.tg_law_layouts.proofs.Moves.Lists.{contained, at_map, at_set}
use Rattle.tg_law_layouts.proofs.Moves.Moves.{Cases, seqr_turn, Keeps, cases_map, keeps_above, run_keeps}
use Rattle.tg_law_layouts.proofs.Moves.Growth.{IsCalm, by_seqr}
use Rattle.tg_law_layouts.proofs.Requests.Told.{NumbersOnce}
use Rattle.tg_law_layouts.proofs.Requests.Numbers.{numbers_once}
use Rattle.tg_law_cells.specs.Tokens.Listing.{IsListed, ListsFull}
use Rattle.tg_law_cells.proofs.Tokens.Issues.{asked_of, Asked, asked_grows, same_asked, token_epoch, token_streams, Issuing, Turned, turned, old_asked, New, more, old_or_new, new_is, new_asked, Low, low_keeps, start_low}
use Rattle.tg_law_cells.proofs.Tokens.Going.{Went, Stays, Begins, Scans, Jumps, Issues}
use Rattle.tg_law_cells.proofs.Tokens.Backs.{Falls, Stands, falls_more, backs, pushes, link_backs}

next_min : (n b s : ℕ) → n < b → n < s → n ≤ min b s
next_min n b s x y = grind arith

issued_links : (p q : ℕ) (ls ks : List StreamLink) → msg.Issued p ls ≡ msg.Issued q ks → ls ≡ ks
issued_links p q ls ks h = cc

same_seqr : (s j : ℕ) → seqr_id s ≡ seqr_id j → s ≡ j
same_seqr s j e = ap (λ (n : NodeId). n.num) e

falls_on : (s t : SeqrState) → Went s t → (o : Oid) → Falls s.next (backs s.lists o) → Falls t.next (backs t.lists o)
falls_on s t (Stays same n l) o f = subst (λ x. Falls x (backs t.lists o)) (sym n) (subst (λ ls. Falls s.next (backs ls o)) (sym l) f)
falls_on s t (Begins q less i j n l) o f = subst (λ ls. Falls t.next (backs ls o)) (sym l) tt
falls_on s t (Scans c same less n l) o f = subst (λ ls. Falls t.next (backs ls o)) (sym l) (falls_more s.next t.next _ (omega (arith, n)) (pushes s.next o (cell_streams c) s.lists f).falls)
falls_on s t (Jumps b same less past n l) o f = subst (λ ls. Falls t.next (backs ls o)) (sym l) (falls_more s.next t.next _ (subst (λ x. s.next ≤ x) (sym n) (next_min s.next b s.proj.start past less)) f)
falls_on s t (Issues os same le n l) o f = subst (λ ls. Falls t.next (backs ls o)) (sym l) (falls_more s.next t.next _ (omega (arith, n)) (pushes s.next o os s.lists f).falls)

-- a position that was issued before
stands_on : (s t : SeqrState) → Went s t → (o : Oid) (e q : ℕ) → Falls s.next (backs s.lists o) → e ≤ s.epoch → (e ≡ s.epoch → (s.proj.start ≤ q) × (q < s.next)) → e ≡ t.epoch → (e ≡ s.epoch → Stands q (backs s.lists o)) → Stands q (backs t.lists o)
stands_on s t (Stays same n l) o e q f up here i h = subst (λ ls. Stands q (backs ls o)) (sym l) (h (i ∙ same.epoch))
stands_on s t (Begins p less x y n l) o e q f up here i h = absurd (omega (arith, less, up, i, x))
stands_on s t (Scans c same less n l) o e q f up here i h = let k = here (i ∙ same.epoch) in let a = k.0 in let b = k.1 in absurd (omega (arith, a, b, less))
stands_on s t (Jumps b same less past n l) o e q f up here i h = let k = here (i ∙ same.epoch) in let x = k.0 in let y = k.1 in absurd (omega (arith, x, y, less))
stands_on s t (Issues os same le n l) o e q f up here i h = subst (λ ls. Stands q (backs ls o)) (sym l) ((pushes s.next o os s.lists f).stands q (let k = (here (i ∙ same.epoch)).1 in omega (arith, k)) (h (i ∙ same.epoch)))

module _ (m : Meaning) where
  pub record Lists (c : Config m) : Type 0 where
    pub falls : (s : ℕ) (o : Oid) → Falls (seqr_in m c s).next (backs (seqr_in m c s).lists o)
    pub named : (s : ℕ) (a : Packet) (q : ℕ) (ls : List StreamLink) (oz : List Oid) (o : Oid) → Has c.packets a → a.from ≡ seqr_id s → a.msg ≡ msg.Issued q ls → Asked c.packets a (seqr_in m c s).epoch oz → Has oz o → Stands q (backs (seqr_in m c s).lists o)
    pub links : (s : ℕ) (a b : Packet) (q p e : ℕ) (ls ks : List StreamLink) (oz os : List Oid) (l : StreamLink) → Has c.packets a → Has c.packets b → a.from ≡ seqr_id s → b.from ≡ seqr_id s → a.msg ≡ msg.Issued q ls → b.msg ≡ msg.Issued p ks
        → Asked c.packets a e oz → Asked c.packets b e os → q < p → Has ks l → Has oz l.oid → Stands q l.backs

  calm : (c : Config m) → Issuing m c → Lists c → IsCalm m role.Seqr c (λ d. NumbersOnce d.packets → Lists d)
  calm c h k d q n = record {
    falls = λ s o. subst (λ (x : SeqrState). Falls x.next (backs x.lists o)) (sym (same s)) (k.falls s o);
    named = λ s a p ls oz o has from is asked name. subst (λ (x : SeqrState). Stands p (backs x.lists o)) (sym (same s))
        (k.named s a p ls oz o (old s a has from) from is (old_asked m c d.packets s a p _ ls oz h n q.grows.sent (old s a has from) from is (subst (λ (x : SeqrState). Asked d.packets a x.epoch oz) (same s) asked)) name);
    links = λ s a b p r e ls ks oz os l has has' from from' is is' x y less hl hz. k.links s a b p r e ls ks oz os l (old s a has from) (old s b has' from') from from' is is'
        (old_asked m c d.packets s a p e ls oz h n q.grows.sent (old s a has from) from is x) (old_asked m c d.packets s b r e ks os h n q.grows.sent (old s b has' from') from' is' y) less hl hz;
  }
    where
      same : (s : ℕ) → seqr_in m d s ≡ seqr_in m c s
      same s = λ i. slice_index_or (q.seqrs refl i) s (new_seqr s (q.cluster i).limit (first_layout (q.cluster i)))

      old : (s : ℕ) (a : Packet) → Has d.packets a → a.from ≡ seqr_id s → Has c.packets a
      old s a has from = q.old a has (ap (λ (n : NodeId). n.role) from)

  module _ (c : Config m) (h : Issuing m c) (k : Lists c) (s : ℕ) (t : SeqrTurn) (g : Turned m c s t) (less : s < length c.seqrs) (n : NumbersOnce (seqr_turn m c s t).packets) where
    abbrev ps : List Packet
    ps = c.packets

    abbrev rs : List Packet
    rs = (seqr_turn m c s t).packets

    abbrev IsNew : Packet → Type 0
    IsNew a = New m c h s t g less n a

    grown : (x : Packet) → Has ps x → Has rs x
    grown x y = more m c h s t g less n x y

    which : (a : Packet) (p : ℕ) (ls : List StreamLink) → a.msg ≡ msg.Issued p ls → Has rs a → Has ps a ⊎ IsNew a
    which a p ls is has = old_or_new m c h s t g less n a p ls is has

    pos_new : (a : Packet) (p : ℕ) (ls : List StreamLink) → a.msg ≡ msg.Issued p ls → IsNew a → p ≡ (seqr_in m c s).next
    pos_new a p ls is w = new_is m c h s t g less n a p ls is w

    links_new : (a : Packet) (p : ℕ) (ls : List StreamLink) → a.msg ≡ msg.Issued p ls → (w : IsNew a) → ls ≡ links_of (seqr_in m c s).lists w.issue.os
    links_new a p ls is w = issued_links p _ ls _ (sym is ∙ (ap (λ (x : Packet). x.msg) w.is ∙ ap (λ (o : Out). o.msg) w.issue.is))

    epoch_new : (a : Packet) (e : ℕ) (os : List Oid) → (w : IsNew a) → Asked rs a e os → e ≡ (seqr_in m c s).epoch
    epoch_new a e os w x = token_epoch e _ os _ (same_asked rs n a e _ os _ x (new_asked m c h s t g less n a w))

    streams_new : (a : Packet) (e : ℕ) (os : List Oid) → (w : IsNew a) → Asked rs a e os → os ≡ w.issue.os
    streams_new a e os w x = token_streams e _ os _ (same_asked rs n a e _ os _ x (new_asked m c h s t g less n a w))

    epoch_old : (j : ℕ) (a : Packet) (p e : ℕ) (ls : List StreamLink) (os : List Oid) → (has : Has ps a) → (from : a.from ≡ seqr_id j) → (is : a.msg ≡ msg.Issued p ls) → Asked rs a e os → (h.ours j a p ls has from is).epoch ≡ e
    epoch_old j a p e ls os has from is x = let o = h.ours j a p ls has from is in token_epoch o.epoch e o.os os (same_asked rs n a o.epoch e o.os os (asked_grows ps rs a o.epoch o.os grown o.asked) x)

    asked_old : (j : ℕ) (a : Packet) (p e : ℕ) (ls : List StreamLink) (os : List Oid) → Has ps a → a.from ≡ seqr_id j → a.msg ≡ msg.Issued p ls → Asked rs a e os → Asked ps a e os
    asked_old j a p e ls os has from is x = old_asked m c rs j a p e ls os h n grown has from is x

    named_here : (a : Packet) (q : ℕ) (ls : List StreamLink) (oz : List Oid) (o : Oid) → Has rs a → a.from ≡ seqr_id s → a.msg ≡ msg.Issued q ls → Asked rs a t.now.epoch oz → Has oz o → Stands q (backs t.now.lists o)
    named_here a q ls oz o has from is x name = by (which a q ls is has)
      where
        by : Has ps a ⊎ IsNew a → Stands q (backs t.now.lists o)
        by (inl old) =
            let w = h.ours s a q ls old from is in
            let e = epoch_old s a q _ ls oz old from is x in
            stands_on (seqr_in m c s) t.now g.went o w.epoch q (k.falls s o) w.up w.here e
            (λ i. k.named s a q ls oz o old from is (subst (λ y. Asked ps a y oz) (sym e ∙ i) (asked_old s a q _ ls oz old from is x)) name)
        by (inr w) = inl (subst (λ (y : SeqrState). Has (backs y.lists o) q) (sym w.issue.now) (subst (λ y. Has (backs (issued (seqr_in m c s) w.issue.os).lists o) y) (sym (pos_new a q ls is w))
            ((pushes (seqr_in m c s).next o w.issue.os (seqr_in m c s).lists (k.falls s o)).here (inl (subst (λ y. Has y o) (streams_new a _ oz w x) name)))))

    named_there : (j : ℕ) → j ≢ s → (a : Packet) (q : ℕ) (ls : List StreamLink) (oz : List Oid) (o : Oid) → Has rs a → a.from ≡ seqr_id j → a.msg ≡ msg.Issued q ls → Asked rs a (seqr_in m c j).epoch oz → Has oz o → Stands q (backs (seqr_in m c j).lists o)
    named_there j other a q ls oz o has from is x name = by (which a q ls is has)
      where
        by : Has ps a ⊎ IsNew a → Stands q (backs (seqr_in m c j).lists o)
        by (inl old) = k.named j a q ls oz o old from is (asked_old j a q _ ls oz old from is x) name
        by (inr w) = absurd (other (same_seqr j s (sym from ∙ ap (λ (x : Packet). x.from) w.is)))

    links_of' : (j : ℕ) (a b : Packet) (q p e : ℕ) (ls ks : List StreamLink) (oz os : List Oid) (l : StreamLink) → a.from ≡ seqr_id j → b.from ≡ seqr_id j → a.msg ≡ msg.Issued q ls → b.msg ≡ msg.Issued p ks
        → Asked rs a e oz → Asked rs b e os → q < p → Has ks l → Has oz l.oid → Has ps a ⊎ IsNew a → Has ps b ⊎ IsNew b → Stands q l.backs
    links_of' j a b q p e ls ks oz os l from from' is is' x y lt hl hz (inl u) (inl v) = k.links j a b q p e ls ks oz os l u v from from' is is' (asked_old j a q e ls oz u from is x) (asked_old j b p e ks os v from' is' y) lt hl hz
    links_of' j a b q p e ls ks oz os l from from' is is' x y lt hl hz (inl u) (inr w) =
        let i = ap (λ (z : Packet). z.from) w.is in
        let mine : a.from ≡ seqr_id s = from ∙ (sym from' ∙ i) in
        subst (λ zs. Stands q zs) (sym (link_backs (seqr_in m c s).lists w.issue.os l (subst (λ zs. Has zs l) (links_new b p ks is' w) hl)))
        (k.named s a q ls oz l.oid u mine is (subst (λ z. Asked ps a z oz) (epoch_new b e os w y) (asked_old s a q e ls oz u mine is x)) hz)
    links_of' j a b q p e ls ks oz os l from from' is is' x y lt hl hz (inr w) (inl v) =
        let i = ap (λ (z : Packet). z.from) w.is in
        let mine : b.from ≡ seqr_id s = from' ∙ (sym from ∙ i) in
        let z = (h.ours s b p ks v mine is').here (epoch_old s b p e ks os v mine is' y ∙ epoch_new a e oz w x) in
        let b1 = z.1 in
        let at = pos_new a q ls is w in
        absurd (omega (arith, b1, at, lt))
    links_of' j a b q p e ls ks oz os l from from' is is' x y lt hl hz (inr v) (inr w) =
        let at = pos_new a q ls is v in
        let there = pos_new b p ks is' w in
        absurd (omega (arith, at, there, lt))

    lists_on : Lists (seqr_turn m c s t)
    lists_on = record {
      falls = at_set c.seqrs s t.now (λ j. new_seqr j c.cluster.limit (first_layout c.cluster)) (λ j x. (o : Oid) → Falls x.next (backs x.lists o)) less (λ o. falls_on (seqr_in m c s) t.now g.went o (k.falls s o)) (λ j other o. k.falls j o);
      named = at_set c.seqrs s t.now (λ j. new_seqr j c.cluster.limit (first_layout c.cluster)) (λ j z. (a : Packet) (q : ℕ) (ls : List StreamLink) (oz : List Oid) (o : Oid) → Has rs a → a.from ≡ seqr_id j → a.msg ≡ msg.Issued q ls → Asked rs a z.epoch oz → Has oz o → Stands q (backs z.lists o)) less named_here named_there;
      links = λ j a b q p e ls ks oz os l has has' from from' is is' x y lt hl hz. links_of' j a b q p e ls ks oz os l from from' is is' x y lt hl hz (which a q ls is has) (which b p ks is' has');
    }

  lists_keep : (c : Config m) → Issuing m c → Lists c → Cases m c (λ d. NumbersOnce d.packets → Lists d)
  lists_keep c h k = by_seqr m (λ d. NumbersOnce d.packets → Lists d) c (λ n. k) (calm c h k) (λ s t i less n. lists_on c h k s t (turned m c s t (h.scans s) i) less n)

  start_seqr : (h : Header) (s : ℕ) (o : Oid) → Falls (new_seqr s h.limit (first_layout h)).next (backs (new_seqr s h.limit (first_layout h)).lists o)
  unfolding new_seqr
  start_seqr h s o = tt

  start_lists : (h : Header) → Lists (config m (start m h))
  unfolding start
  start_lists h = record {
    falls = λ s o. at_map (λ n. new_seqr n h.limit (first_layout h)) (numbers h.seqs 0) s (new_seqr s h.limit (first_layout h)) (λ (x : SeqrState). Falls x.next (backs x.lists o)) (λ j. start_seqr h j o) (start_seqr h s o);
    named = λ s a p ls oz o has. absurd has;
    links = λ s a b q p e ls ks oz os l has. absurd has;
  }

  keeps : Keeps m (λ c. Low m c × Lists c)
  keeps = keeps_above m (Low m) Lists (low_keeps m) (λ c a f. cases_map m c (λ d. NumbersOnce d.packets → Lists d) (λ d. Low m d → Lists d) (λ d g x. g (numbers_once m d x.0.0.0)) (lists_keep c a.1 f))

  pub lists_hold : (h : Header) (xs : Moves m) → Lists (config m (after m h xs))
  lists_hold h xs = (run_keeps m (λ c. Low m c × Lists c) keeps xs (start m h) (start_low m h, start_lists h)).1

listed : (q : ℕ) (xs : List ℕ) → Stands q xs → IsListed q xs
listed q xs (inl h) = inl (contained xs q h)
listed q xs (inr h) = inr (h.0, λ x g. h.1 x (has_contained xs x g))

module _ (m : Meaning) where
  full_here : (h : Header) (xs : Moves m) → ListsFull m (after m h xs)
  full_here h xs s e q p os oz ls ks a b less l hl ho =
      listed q l.backs ((lists_hold m h xs).links s a.answer b.answer q p e ls ks os oz l (has_contained _ a.answer a.answered) (has_contained _ b.answer b.answered) a.from_seqr b.from_seqr a.issues b.issues
      (asked_of m _ s e q os ls a) (asked_of m _ s e p oz ks b) less (has_contained ks l hl) (has_contained os l.oid ho))

  pub lists_are_full : Always m (ListsFull m)
  lists_are_full = always m (ListsFull m) full_here
