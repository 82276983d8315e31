-- The lists that a sequencer has told: of the positions that it had issued in its epoch to a stream, one is missing only where
-- four others that aren't below it stand there. What it issues later isn't below the position that it told.
use Rattle.std.proofs.Common.{◌≡◌, ◌≢◌, ◌⊎◌, ℕ, ◌<◌, List, [], ◌∷◌, ◌++◌, length, map, true, false, refl, sym, ap, ◌∙◌, subst, inl, inr, arith, Some, None, Option, Bool, append-nil}
use Rattle.std.specs.Prelude.{slice_index_or, if◌then◌else◌}
use Rattle.tg_base.specs.Clusters.{Header}
use Rattle.tg_base.specs.declared.ids.NodeId.{NodeId}
use Rattle.tg_base.specs.declared.ids.Oid.{Oid}
use Rattle.tg_base.specs.declared.ids.Role.TheVariants as role
use Rattle.tg_base.specs.declared.marks.StreamLink.{StreamLink}
use Rattle.tg_base.specs.declared.msg.Msg.{Msg}
use Rattle.tg_base.specs.declared.msg.Msg.TheVariants as msg
use Rattle.tg_base.specs.declared.packet.Out.{Out}
use Rattle.tg_base.specs.declared.packet.Packet.{Packet}
use Rattle.tg_kind.specs.Meaning.{Meaning}
use Rattle.tg_model.specs.Kinds.{EventOf}
use Rattle.tg_protocol.specs.Words.{seqr_id}
use Rattle.tg_base.specs.Orders.{oid_eq}
use Rattle.tg_protocol.specs.Entries.{link_of, backs_of}
use Rattle.tg_protocol.specs.Layouts.{first_layout}
use Rattle.tg_protocol.specs.Sequencers.{SeqrState, SeqrTurn, scanning, link_or_new, links_of, new_seqr, seqr_tick}
use Rattle.tg_protocol.specs.Worlds.{World, start, packet_of, happens, next_event}
use Rattle.tg_protocol.specs.Runs.{Moves, Next, Takes, run, Always}
use Rattle.tg_law_layouts.specs.Moves.After.{after}
use Rattle.tg_law_layouts.specs.Moves.Configs.{Config, config, seqr_in}
use Rattle.tg_law_layouts.specs.Moves.Telling.{is_request}
use Rattle.tg_law_layouts.proofs.Moves.Always.{always}
use Rattle.tg_law_layouts.proofs.Moves.Growth.{IsCalm, by_seqr}
use Rattle.tg_law_layouts.proofs.Moves.Lists.{contained, at_set}
use Rattle.tg_law_layouts.proofs.Moves.Members.{Has, has_left, has_either, has_map, has_contained}
use Rattle.tg_law_layouts.proofs.Moves.Moves.{Cases, Comes, seqr_turn, SeqrInput, Hears, Ticks, step_cases}
use Rattle.tg_law_layouts.proofs.Moves.Scripts.{run_both}
use Rattle.tg_law_layouts.proofs.Requests.Told.{NumbersOnce}
use Rattle.tg_law_layouts.proofs.Requests.Numbers.{numbers_once}
use Rattle.tg_law_cells.specs.Tokens.Listing.{IsListed}
use Rattle.tg_law_cells.proofs.Tokens.Backs as kept
use Rattle.tg_law_cells.proofs.Tokens.Backs.{Stands}
use Rattle.tg_law_cells.proofs.Tokens.Issues.{Asked, same_asked, token_epoch, Issuing, low_holds, Turned, turned, old_asked, old_or_new, new_is, new_asked, New, asked_of}
use Rattle.tg_law_cells.proofs.Tokens.Listing.{Lists, lists_hold}
use Rattle.tg_law_cells.proofs.Order.Tails.{Passed, passed_on, not_scanning, same_seqr}
use Rattle.tg_law_cells.proofs.Entries.Lists.{joined}
use Rattle.tg_law_walks.specs.Walks.Lists.{backs}
use Rattle.tg_law_walks.proofs.Walks.Members.{contrary, same_oid, oid_itself}
use Rattle.tg_law_walks.specs.Lists.Telling.{asks_links, tells_links}
use Rattle.tg_law_walks.proofs.Lists.Telling.{IsTold, step_told, tick_silent}
use Rattle.tg_law_syncs.specs.Settling.Listing.{ToldListsFull}

listed : (q : ℕ) (xs : List ℕ) → Stands q xs → IsListed q xs
listed q xs (inl h) = inl (contained xs q h)
listed q xs (inr h) = inr (h.0, λ x g. h.1 x (has_contained xs x g))

asked_request : (y : Msg) (epoch : ℕ) (os : List Oid) → asks_links y ≡ Some (epoch, os) → is_request y ≡ true
unfolding asks_links is_request
asked_request y epoch os i = grind arith

-- The links that are told of some streams have the lists that are kept of them.

some_link : (a b : StreamLink) → Some a ≡ Some b → a ≡ b
some_link a b e = cc

found_oid : (k : Oid) (ls : List StreamLink) (y : StreamLink) → link_of k ls ≡ Some y → y.oid ≡ k
found_oid k [] y e = absurd (cc)
found_oid k (z ∷ ls) y e = by (oid_eq z.oid k) refl e (λ f. found_oid k ls y f)
  where
    by : (b : Bool) → oid_eq z.oid k ≡ b → (if b then Some z else link_of k ls) ≡ Some y → (link_of k ls ≡ Some y → y.oid ≡ k) → y.oid ≡ k
    by true t f rest = ap (λ (v : StreamLink). v.oid) (sym (some_link z y f)) ∙ same_oid z.oid k t
    by false t f rest = rest f

new_oid : (k : Oid) (ls : List StreamLink) (x : Option StreamLink) → link_of k ls ≡ x → (link_or_new k x).oid ≡ k
new_oid k ls None e = refl
new_oid k ls (Some y) e = found_oid k ls y e

told_of : (os : List Oid) (ls : List StreamLink) (o : Oid) → Has os o → backs o (links_of ls os) ≡ kept.backs ls o
told_of [] ls o i = absurd i
told_of (k ∷ os) ls o i = by (oid_eq k o) refl i (λ j. told_of os ls o j)
  where
    test : (b : Bool) → oid_eq k o ≡ b → backs o (links_of ls (k ∷ os)) ≡ backs_of (if b then Some (link_or_new k (link_of k ls)) else link_of o (links_of ls os))
    test b e = ap (λ (c : Bool). backs_of (if c then Some (link_or_new k (link_of k ls)) else link_of o (links_of ls os))) (ap (λ (y : Oid). oid_eq y o) (new_oid k ls (link_of k ls) refl) ∙ e)

    by : (b : Bool) → oid_eq k o ≡ b → Has (k ∷ os) o → (Has os o → backs o (links_of ls os) ≡ kept.backs ls o) → backs o (links_of ls (k ∷ os)) ≡ kept.backs ls o
    by true e j rest = test true e ∙ ap (λ (y : Oid). kept.backs ls y) (same_oid k o e)
    by false e (inl s) rest = contrary (oid_eq k o) e (ap (oid_eq k) s ∙ oid_itself k)
    by false e (inr j) rest = test false e ∙ rest j

-- what an answer's sequencer has issued in an epoch below the position that it tells
pub record IssuedBelow (ps : List Packet) (a : Packet) (epoch pos q : ℕ) (oz : List Oid) : Type 0 where
  pub answer : Packet
  pub links : List StreamLink
  pub has : Has ps answer
  pub from : answer.from ≡ a.from
  pub is : answer.msg ≡ msg.Issued q links
  pub asked : Asked ps answer epoch oz
  pub below : q < pos

-- an answer that tells links, with what its request asked
pub record Linked (ps : List Packet) (z : SeqrState) (a : Packet) (pos : ℕ) (ls : List StreamLink) : Type 0 where
  pub ask : Packet
  pub has : Has ps ask
  pub to : ask.to ≡ a.from
  pub from : ask.from ≡ a.to
  pub rid : ask.rid ≡ a.rid
  pub request : is_request ask.msg ≡ true
  pub passed : (epoch : ℕ) (os : List Oid) → asks_links ask.msg ≡ Some (epoch, os) → Passed z epoch pos
  pub full : (epoch q : ℕ) (os oz : List Oid) (o : Oid) → asks_links ask.msg ≡ Some (epoch, os) → IssuedBelow ps a epoch pos q oz → Has os o → Has oz o → Stands q (backs o ls)

-- where nothing new is issued below it
linked_on : (ps qs : List Packet) (y z : SeqrState) (a : Packet) (pos : ℕ) (ls : List StreamLink) → ((x : Packet) → Has ps x → Has qs x) → ((e t : ℕ) → Passed y e t → Passed z e t)
    → ((epoch q : ℕ) (oz : List Oid) → Passed y epoch pos → IssuedBelow qs a epoch pos q oz → IssuedBelow ps a epoch pos q oz) → Linked ps y a pos ls → Linked qs z a pos ls
linked_on ps qs y z a pos ls up on older k = record {
  ask = k.ask;
  has = up k.ask k.has;
  to = k.to;
  from = k.from;
  rid = k.rid;
  request = k.request;
  passed = λ e os is. on e pos (k.passed e os is);
  full = λ e q os oz o is b i j. k.full e q os oz o is (older e q oz (k.passed e os is) b) i j;
}

module _ (m : Meaning) where
  pub record Told (c : Config m) : Type 0 where
    pub each : (s : ℕ) (a : Packet) (pos : ℕ) (ls : List StreamLink) → Has c.packets a → a.from ≡ seqr_id s → tells_links a.msg ≡ Some (pos, ls) → Linked c.packets (seqr_in m c s) a pos ls

  calm : (c : Config m) → Issuing m c → Told c → IsCalm m role.Seqr c (λ d. NumbersOnce d.packets → Told d)
  calm c low h d q n = record {
    each = λ s a pos ls has from tells. subst (λ (x : SeqrState). Linked d.packets x a pos ls) (sym (same s))
        (linked_on c.packets d.packets (seqr_in m c s) (seqr_in m c s) a pos ls q.grows.sent (λ e t p. p) (λ e p oz past b. older s a from e p pos oz b)
        (h.each s a pos ls (q.old a has (ap (λ (n : NodeId). n.role) from)) from tells));
  }
    where
      same : (s : ℕ) → seqr_in m d s ≡ seqr_in m c s
      same s = λ i. slice_index_or (q.seqrs refl i) s (new_seqr s (q.cluster i).limit (first_layout (q.cluster i)))

      older : (s : ℕ) (a : Packet) → a.from ≡ seqr_id s → (e p pos : ℕ) (oz : List Oid) → IssuedBelow d.packets a e pos p oz → IssuedBelow c.packets a e pos p oz
      older s a from e p pos oz b =
          let i = q.old b.answer b.has (ap (λ (n : NodeId). n.role) (b.from ∙ from)) in
          record { answer = b.answer; links = b.links; has = i; from = b.from; is = b.is; asked = old_asked m c d.packets s b.answer p e b.links oz low n q.grows.sent i (b.from ∙ from) b.is b.asked; below = b.below }

  module _ (c : Config m) (low : Issuing m c) (lists : Lists m c) (h : Told c) (s : ℕ) (t : SeqrTurn) (g : Turned m c s t) (less : s < length c.seqrs) (n : NumbersOnce (seqr_turn m c s t).packets) where
    abbrev z : SeqrState
    z = seqr_in m c s

    abbrev ps : List Packet
    ps = c.packets

    abbrev qs : List Packet
    qs = (seqr_turn m c s t).packets

    on : (e u : ℕ) → Passed z e u → Passed t.now e u
    on e u p = passed_on z t.now e u g.went p

    more : (x : Packet) → Has ps x → Has qs x
    more x y = has_left ps _ x y

    -- what is issued below an answer of a sequencer was issued before, where it can't be by this turn
    older : (j : ℕ) (a : Packet) → a.from ≡ seqr_id j → (e pos q : ℕ) (oz : List Oid) → (b : IssuedBelow qs a e pos q oz) → (New m c low s t g less n b.answer → ⊥) → IssuedBelow ps a e pos q oz
    older j a from e pos q oz b none = by (old_or_new m c low s t g less n b.answer q b.links b.is b.has)
      where
        by : Has ps b.answer ⊎ New m c low s t g less n b.answer → IssuedBelow ps a e pos q oz
        by (inl i) = record { answer = b.answer; links = b.links; has = i; from = b.from; is = b.is; asked = old_asked m c qs j b.answer q e b.links oz low n more i (b.from ∙ from) b.is b.asked; below = b.below }
        by (inr w) = absurd (none w)

    new_at : (a : Packet) (e pos q : ℕ) (oz : List Oid) → (b : IssuedBelow qs a e pos q oz) → New m c low s t g less n b.answer → (e ≡ z.epoch) × (q ≡ z.next)
    new_at a e pos q oz b w = (sym (token_epoch _ e _ oz (same_asked qs n b.answer _ e _ oz (new_asked m c low s t g less n b.answer w) b.asked)), new_is m c low s t g less n b.answer q b.links b.is w)

    none_here : (a : Packet) (e pos q : ℕ) (oz : List Oid) → Passed z e pos → (b : IssuedBelow qs a e pos q oz) → New m c low s t g less n b.answer → ⊥
    none_here a e pos q oz p b w =
        let k = new_at a e pos q oz b w in
        let at = k.1 in
        let past = (p.here k.0).1 in
        let below = b.below in
        omega (arith, at, past, below)

    none_there : (j : ℕ) → j ≢ s → (a : Packet) → a.from ≡ seqr_id j → (e pos q : ℕ) (oz : List Oid) → (b : IssuedBelow qs a e pos q oz) → New m c low s t g less n b.answer → ⊥
    none_there j other a from e pos q oz b w = other (same_seqr j s (sym (b.from ∙ from) ∙ ap (λ (y : Packet). y.from) w.is))

    full_new : (p : Packet) (a : Packet) (pos : ℕ) (ls : List StreamLink) (o : Out) → a ≡ packet_of m (seqr_id s) o → IsTold z p.from p.rid p.msg o pos ls
        → (e q : ℕ) (os oz : List Oid) (n : Oid) → asks_links p.msg ≡ Some (e, os) → IssuedBelow qs a e pos q oz → Has os n → Has oz n → Stands q (backs n ls)
    full_new p a pos ls o is k e q os oz x asks b i j =
        subst (λ (ys : List ℕ). Stands q ys) (sym (ap (backs x) u.3 ∙ told_of os z.lists x i))
        (lists.named s old.answer q old.links oz x old.has (old.from ∙ from) old.is (subst (λ (y : ℕ). Asked ps old.answer y oz) u.0 old.asked) j)
      where
        u : (e ≡ z.epoch) × (scanning z ≡ false) × (pos ≡ z.next) × (ls ≡ links_of z.lists os)
        u = k.links e os asks

        from : a.from ≡ seqr_id s
        from = ap (λ (y : Packet). y.from) is

        none : New m c low s t g less n b.answer → ⊥
        none w = let at = (new_at a e pos q oz b w).1 in let told = u.2 in let below = b.below in omega (arith, at, told, below)

        old : IssuedBelow ps a e pos q oz
        old = older s a from e pos q oz b none

    heard : (p : Packet) → Comes m c p (seqr_id s) → (a : Packet) (pos : ℕ) (ls : List StreamLink) (o : Out) → a ≡ packet_of m (seqr_id s) o → IsTold z p.from p.rid p.msg o pos ls → Linked qs t.now a pos ls
    heard p comes a pos ls o is k = record {
      ask = p;
      has = more p comes.sent;
      to = comes.to_node ∙ sym (ap (λ (x : Packet). x.from) is);
      from = sym (ap (λ (x : Packet). x.to) is ∙ k.to);
      rid = sym (ap (λ (x : Packet). x.rid) is ∙ k.number);
      request = k.request;
      passed = λ epoch os asks.
          let u = k.links epoch os asks in
          on epoch pos (record { up = let e = u.0 in omega (arith, e); here = λ e. (not_scanning z u.1, let n = u.2 in omega (arith, n)) });
      full = λ e q os oz x asks b i j. full_new p a pos ls o is k e q os oz x asks b i j;
    }

    new : (u : SeqrTurn) → SeqrInput m c s u → u ≡ t → (a : Packet) (pos : ℕ) (ls : List StreamLink) → tells_links a.msg ≡ Some (pos, ls) → (o : Out) → Has u.sends o → a ≡ packet_of m (seqr_id s) o → Linked qs t.now a pos ls
    unfolding seqr_tick
    new u (Hears p comes) same a pos ls tells o j is = heard p comes a pos ls o is (step_told z p.from p.rid p.msg o pos ls j (sym (ap (λ (x : Packet). tells_links x.msg) is) ∙ tells))
    new u Ticks same a pos ls tells o j is = absurd (tick_silent z o pos ls j (sym (ap (λ (x : Packet). tells_links x.msg) is) ∙ tells))

    module _ (i : SeqrInput m c s t) where
      here : (a : Packet) (pos : ℕ) (ls : List StreamLink) → Has qs a → a.from ≡ seqr_id s → tells_links a.msg ≡ Some (pos, ls) → Linked qs t.now a pos ls
      here a pos ls has from tells = by (has_either ps _ a has)
        where
          by : Has ps a ⊎ Has (map (packet_of m (seqr_id s)) t.sends) a → Linked qs t.now a pos ls
          by (inl x) = linked_on ps qs z t.now a pos ls more on (λ e q oz p b. older s a from e pos q oz b (none_here a e pos q oz p b)) (h.each s a pos ls x from tells)
          by (inr x) = let k = has_map (packet_of m (seqr_id s)) t.sends a x in new t i refl a pos ls tells k.of k.has k.is

      there : (j : ℕ) → j ≢ s → (a : Packet) (pos : ℕ) (ls : List StreamLink) → Has qs a → a.from ≡ seqr_id j → tells_links a.msg ≡ Some (pos, ls) → Linked qs (seqr_in m c j) a pos ls
      there j other a pos ls has from tells = by (has_either ps _ a has)
        where
          by : Has ps a ⊎ Has (map (packet_of m (seqr_id s)) t.sends) a → Linked qs (seqr_in m c j) a pos ls
          by (inl x) = linked_on ps qs (seqr_in m c j) (seqr_in m c j) a pos ls more (λ e u p. p) (λ e q oz p b. older j a from e pos q oz b (none_there j other a from e pos q oz b)) (h.each j a pos ls x from tells)
          by (inr x) = let k = has_map (packet_of m (seqr_id s)) t.sends a x in absurd (other (same_seqr j s (sym from ∙ ap (λ (y : Packet). y.from) k.is)))

      told_turned : Told (seqr_turn m c s t)
      told_turned = record {
        each = at_set c.seqrs s t.now (λ j. new_seqr j c.cluster.limit (first_layout c.cluster))
            (λ j x. (a : Packet) (pos : ℕ) (ls : List StreamLink) → Has qs a → a.from ≡ seqr_id j → tells_links a.msg ≡ Some (pos, ls) → Linked qs x a pos ls) less here there;
      }

  told_keep : (c : Config m) → Issuing m c → Lists m c → Told c → Cases m c (λ d. NumbersOnce d.packets → Told d)
  told_keep c low lists h = by_seqr m (λ d. NumbersOnce d.packets → Told d) c (λ n. h) (calm c low h) (λ s t i less n. told_turned c low lists h s t (turned m c s t (low.scans s) i) less n i)

  module _ (h : Header) where
    once : (xs : Moves m) → NumbersOnce (config m (after m h xs)).packets
    once xs = numbers_once m (config m (after m h xs)) (low_holds m h xs).0.0.0

    then_takes : (xs : Moves m) (e : EventOf m) → after m h (xs ++ Takes e ∷ []) ≡ happens m (after m h xs) e
    unfolding run
    then_takes xs e = run_both m xs (Takes e ∷ []) (start m h)

    then_next : (xs : Moves m) → after m h (xs ++ Next ∷ []) ≡ next_event m (after m h xs)
    unfolding run
    then_next xs = run_both m xs (Next ∷ []) (start m h)

    stepped : (xs : Moves m) (e : EventOf m) → Told (config m (after m h xs)) → Told (config m (after m h (xs ++ Takes e ∷ [])))
    stepped xs e k =
        subst (λ (u : World m). NumbersOnce (config m u).packets → Told (config m u)) (sym (then_takes xs e))
        (step_cases m (after m h xs) (λ d. NumbersOnce d.packets → Told d) (told_keep (config m (after m h xs)) (low_holds m h xs).1 (lists_hold m h xs) k) e)
        (once (xs ++ Takes e ∷ []))

    told_on : (xs ms : Moves m) → Told (config m (after m h xs)) → Told (config m (after m h (xs ++ ms)))
    told_on xs [] a = subst (λ (us : Moves m). Told (config m (after m h us))) (sym (append-nil xs)) a
    told_on xs (Next ∷ ms) a =
        subst (λ (us : Moves m). Told (config m (after m h us))) (joined xs (Next ∷ []) ms)
        (told_on (xs ++ Next ∷ []) ms (subst (λ (u : World m). Told (config m u)) (sym (then_next xs)) (record { each = a.each })))
    told_on xs (Takes x ∷ ms) a =
        subst (λ (us : Moves m). Told (config m (after m h us))) (joined xs (Takes x ∷ []) ms)
        (told_on (xs ++ Takes x ∷ []) ms (stepped xs x a))

    start_told : Told (config m (after m h []))
    unfolding run start
    start_told = record { each = λ s a pos ls has. absurd has }

    pub told_hold : (xs : Moves m) → Told (config m (after m h xs))
    told_hold xs = told_on [] xs start_told

    full_here : (xs : Moves m) → ToldListsFull m (after m h xs)
    full_here xs s e q p os oz ls ks a b less o i j =
        let k = (told_hold xs).each s b.answer p ks (has_contained _ b.answer b.answered) b.from_seqr b.tells in
        let same = (once xs).same k.ask b.ask k.has (has_contained _ b.ask b.asked) k.request (asked_request b.ask.msg e oz b.asks) (k.from ∙ b.back) (k.to ∙ b.from_seqr ∙ sym b.to_seqr) (k.rid ∙ b.number) in
        let below : IssuedBelow (after m h xs).packets b.answer e p q os = record {
          answer = a.answer;
          links = ls;
          has = has_contained _ a.answer a.answered;
          from = a.from_seqr ∙ sym b.from_seqr;
          is = a.issues;
          asked = asked_of m (after m h xs) s e q os ls a;
          below = less;
        } in
        listed q (backs o ks) (k.full e q oz os o (ap asks_links same ∙ b.asks) below (has_contained oz o j) (has_contained os o i))

  pub told_lists_are_full : Always m (ToldListsFull m)
  told_lists_are_full = always m (ToldListsFull m) (λ h xs. full_here h xs)
