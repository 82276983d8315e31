-- The law of one layout for an epoch.
use Rattle.std.proofs.Common.{◌≡◌, ℕ, zero, suc, ◌+◌, ◌<◌, ◌≤◌, List, [], ◌∷◌, ◌++◌, map, Bool, true, false, refl, sym, ap, ◌∙◌, subst, inl, inr, arith, Some, None, Option}
use Rattle.std.specs.Prelude.{slice_index_or, nat_lt, if◌then◌else◌, ◌==◌}
use Rattle.std.proofs.lemmas.List.{length-replicate}
use Rattle.tg_base.specs.Layouts.{Layout}
use Rattle.tg_base.specs.Clusters.{Header}
use Rattle.tg_base.specs.declared.ids.Ballot.{Ballot}
use Rattle.tg_base.specs.declared.msg.Msg.{Msg}
use Rattle.tg_base.specs.declared.msg.Msg.TheVariants as msg
use Rattle.tg_base.specs.declared.packet.Packet.{Packet}
use Rattle.tg_kind.specs.Meaning.{Meaning}
use Rattle.tg_protocol.specs.Words.{numbers, where_true, or_else}
use Rattle.tg_protocol.specs.Layouts.{first_layout}
use Rattle.tg_protocol.specs.LayoutServers.{new_layout, vote_of}
use Rattle.tg_protocol.specs.Logs.{has_accepted, acceptances, by_majority, decided_by, of_epoch, decided_among, decided}
use Rattle.tg_protocol.specs.Clients.{Client, new_client}
use Rattle.tg_protocol.specs.Worlds.{World, start}
use Rattle.tg_law_layouts.proofs.Moves.Scripts.{run_both}
use Rattle.tg_law_layouts.proofs.Moves.Members.{Has, found, passes_somewhere}
use Rattle.tg_law_layouts.proofs.Agreement.Facts.{Proposed, Truth, agreed, proposed_grows}
use Rattle.tg_law_layouts.proofs.Agreement.Servers.{Stands}
use Rattle.tg_law_layouts.specs.Moves.Configs.{Config, config}
use Rattle.tg_law_layouts.specs.Layouts.Decisions.{ReadStays}
use Rattle.tg_law_layouts.proofs.Moves.Lists.{at_replicate}
use Rattle.tg_law_layouts.proofs.Moves.Moves.{Keeps, cases_map, run_keeps}
use Rattle.tg_law_layouts.proofs.Moves.Growth.{Grows, every_move_grows}
use Rattle.tg_law_layouts.proofs.Layouts.Pax.{OfEpoch, ClientOk}
use Rattle.tg_law_layouts.proofs.Layouts.Decisions.{Pax, pax_keep}
use Rattle.tg_protocol.specs.Runs.{Moves, run}
use Rattle.tg_law_layouts.specs.Moves.After.{after}

at_numbers : {A : Type 0} (f : ℕ → A) (n a k : ℕ) (d : A) → d ≡ f (a + k) → slice_index_or (map f (numbers n a)) k d ≡ f (a + k)
at_numbers f zero a k d e = e
at_numbers f (suc n) a zero d e = ap f (omega arith)
at_numbers f (suc n) a (suc k) d e = at_numbers f n (a + 1) k d (e ∙ ap f (omega arith)) ∙ ap f (omega arith)

module _ (m : Meaning) where
  client_at : (h : Header) (k : ℕ) → slice_index_or (map (new_client m h) (numbers h.clients 0)) k (new_client m h k) ≡ new_client m h k
  client_at h k = at_numbers (new_client m h) h.clients 0 k (new_client m h k) (ap (new_client m h) (omega arith)) ∙ ap (new_client m h) (omega arith)

  start_truth : (e n : ℕ) → Truth e n (OfEpoch e) []
  start_truth e n = record {
    facts = record { unique = λ b q r x. absurd x.sent; elected = λ b q x. absurd x.sent; tells = λ l b c a x. absurd x.sent };
    servers = λ l b a x. absurd x.sent;
    told = λ l b x y. absurd y.sent;
    allowed = λ b q x. absurd x.sent;
  }

  start_stands : (p : Layout) (l e : ℕ) → Stands e [] l (vote_of (new_layout p) e)
  unfolding new_layout
  start_stands p l e = record { promised = λ b a x. absurd x.sent; covered = λ b x. absurd x.sent; proposed = λ x is. absurd (cc) }

  start_client : (n k : ℕ) (h : Header) → ClientOk m n k [] (new_client m h k)
  unfolding new_client
  start_client n k h = λ f b q less x. absurd x.sent

  new_num : (h : Header) (k : ℕ) → ((new_client m h k).num ≡ k) × ((new_client m h k).layouts ≡ h.layouts)
  unfolding new_client
  new_num h k = (refl, refl)

  pub start_pax : (h : Header) → Pax m (config m (start m h))
  unfolding start
  start_pax h = record {
    num = λ k. ap (λ (c : Client m). c.num) (client_at h k) ∙ (new_num h k).0;
    layouts = λ k. ap (λ (c : Client m). c.layouts) (client_at h k) ∙ (new_num h k).1;
    long = length-replicate h.layouts _;
    truth = λ e. start_truth e h.layouts;
    stands = λ l e. at_replicate h.layouts (new_layout (first_layout h)) l (new_layout (first_layout h)) (λ s. Stands e [] l (vote_of s e)) (start_stands _ l e) (start_stands _ l e);
    clients = λ k. subst (λ (c : Client m). ClientOk m h.layouts k [] c) (sym (client_at h k)) (start_client h.layouts k h);
  }

  -- the header stays
  pub record HasHeader (h : Header) (c : Config m) : Type 0 where
    pub is : c.cluster ≡ h

  header_keeps : (h : Header) → Keeps m (HasHeader h)
  header_keeps h c x = record {
    idle = x;
    unit = λ u p a less. record { is = x.is };
    layout = λ u p a less. record { is = x.is };
    seqr = λ u p a less. record { is = x.is };
    client = λ u p a less. record { is = x.is };
  }

  start_header : (h : Header) → HasHeader h (config m (start m h))
  unfolding start
  start_header h = record { is = refl }

  pub has_header : (h : Header) (xs : Moves m) → (config m (after m h xs)).cluster ≡ h
  has_header h xs = (run_keeps m (HasHeader h) (header_keeps h) xs (start m h) (start_header h)).is

  pub pax : (h : Header) (xs : Moves m) (e : ℕ) → Truth e h.layouts (OfEpoch e) (after m h xs).packets
  pax h xs e = subst (λ (x : Header). Truth e x.layouts (OfEpoch e) (after m h xs).packets) (run_keeps m (HasHeader h) (header_keeps h) xs (start m h) (start_header h)).is
      ((run_keeps m (Pax m) (pax_keep m) xs (start m h) (start_pax h)).truth e)

  -- Packets stay sent.

  pub record Since (ps : List Packet) (c : Config m) : Type 0 where
    pub sent : (q : Packet) → Has ps q → Has c.packets q

  since_keeps : (ps : List Packet) → Keeps m (Since ps)
  since_keeps ps c x = cases_map m c (Grows m c) (Since ps) (λ d g. record { sent = λ q h. g.sent q (x.sent q h) }) (every_move_grows m c)

  pub stays_sent : (ys : Moves m) (w : World m) (q : Packet) → Has w.packets q → Has (run m ys w).packets q
  stays_sent ys w q h = (run_keeps m (Since w.packets) (since_keeps w.packets) ys w (record { sent = λ p x. x })).sent q h

-- More acceptances.

pub accepted_still : (ps qs : List Packet) (e : ℕ) (b : Ballot) (n : ℕ) → ((q : Packet) → Has ps q → Has qs q) → has_accepted ps e b n ≡ true → has_accepted qs e b n ≡ true
accepted_still ps qs e b n more h = let p = found _ ps h in passes_somewhere _ qs p.it (more p.it p.has) p.passes

count_more : (x y a b : Bool) (m n : ℕ) → (x ≡ true → y ≡ true) → m ≤ n → (if x then 1 else 0) + m ≤ (if y then 1 else 0) + n
count_more x y a b m n h le = grind arith

pub acceptances_more : (ps qs : List Packet) (e : ℕ) (b : Ballot) (n : ℕ) → ((q : Packet) → Has ps q → Has qs q) → acceptances ps e b n ≤ acceptances qs e b n
acceptances_more ps qs e b zero more = omega arith
acceptances_more ps qs e b (suc n) more = count_more (has_accepted ps e b n) (has_accepted qs e b n) true true _ _ (accepted_still ps qs e b n more) (acceptances_more ps qs e b n more)

most_of : (n k : ℕ) → nat_lt n (k + k) ≡ true → n < k + k
most_of n k h = grind arith

pub most_more : (n k l : ℕ) → nat_lt n (k + k) ≡ true → k ≤ l → n < l + l
most_more n k l h le = grind arith

-- a layout with a ballot that a majority has accepted
pub record Chosen (ps : List Packet) (n e : ℕ) (q : Layout) : Type 0 where
  pub ballot : Ballot
  pub proposed : Proposed e ps ballot q
  pub accepted : by_majority ps n e ballot ≡ true

module _ (m : Meaning) (h : Header) (xs ys : Moves m) where
  abbrev w : World m
  w = after m h xs

  abbrev v : World m
  v = after m h (xs ++ ys)

  cut : v ≡ run m ys w
  cut = run_both m xs ys (start m h)

  pub more : (p : Packet) → Has w.packets p → Has v.packets p
  more p g = subst (λ (u : World m). Has u.packets p) (sym cut) (stays_sent m ys w p g)

  pub one_chosen : (e : ℕ) (q r : Layout) → Chosen w.packets h.layouts e q → Chosen v.packets h.layouts e r → q ≡ r
  one_chosen e q r x y = agreed e h.layouts v.packets (pax m h (xs ++ ys) e).facts x.ballot y.ballot q r
      (proposed_grows e w.packets v.packets more x.ballot q x.proposed)
      (most_more h.layouts _ _ x.accepted (acceptances_more w.packets v.packets e x.ballot h.layouts more))
      y.proposed
      (most_of h.layouts _ y.accepted)

-- The first one that is found.

pub record Found (ps : List Packet) (n e : ℕ) (xs : List Packet) (q : Layout) : Type 0 where
  pub packet : Packet
  pub has : Has xs packet
  pub is : of_epoch e (decided_by ps n packet.msg) ≡ Some q

found_more : (ps : List Packet) (n e : ℕ) (x : Packet) (xs : List Packet) (q : Layout) → Found ps n e xs q → Found ps n e (x ∷ xs) q
found_more ps n e x xs q f = record { packet = f.packet; has = inr f.has; is = f.is }

found_at : (ps : List Packet) (n e : ℕ) (x : Packet) (xs : List Packet) (q : Layout) (o : Option Layout) → of_epoch e (decided_by ps n x.msg) ≡ o
    → (decided_among ps n e xs ≡ Some q → Found ps n e xs q) → or_else o (decided_among ps n e xs) ≡ Some q → Found ps n e (x ∷ xs) q
found_at ps n e x xs q None is rest h = found_more ps n e x xs q (rest h)
found_at ps n e x xs q (Some y) is rest h = record { packet = x; has = inl refl; is = is ∙ h }

among_found : (ps : List Packet) (n e : ℕ) (xs : List Packet) (q : Layout) → decided_among ps n e xs ≡ Some q → Found ps n e xs q
among_found ps n e [] q h = absurd (cc)
among_found ps n e (x ∷ xs) q h = found_at ps n e x xs q _ refl (λ g. among_found ps n e xs q g) h

-- one is found
pub record Some' (o : Option Layout) : Type 0 where
  pub it : Layout
  pub is : o ≡ Some it

or_some : (o p : Option Layout) → Some' p → Some' (or_else o p)
or_some None p s = s
or_some (Some y) p s = record { it = y; is = refl }

or_here : (o p : Option Layout) (q : Layout) → o ≡ Some q → Some' (or_else o p)
or_here o p q e = record { it = q; is = ap (λ (x : Option Layout). or_else x p) e }

among_some : (ps : List Packet) (n e : ℕ) (xs : List Packet) (x : Packet) (q : Layout) → Has xs x → of_epoch e (decided_by ps n x.msg) ≡ Some q → Some' (decided_among ps n e xs)
among_some ps n e [] x q h is = absurd h
among_some ps n e (y ∷ xs) x q (inl i) is = or_here _ _ q (ap (λ (z : Packet). of_epoch e (decided_by ps n z.msg)) (sym i) ∙ is)
among_some ps n e (y ∷ xs) x q (inr h) is = or_some _ _ (among_some ps n e xs x q h is)

-- what a message decides
pub record Decides (ps : List Packet) (n e : ℕ) (y : Msg) (q : Layout) : Type 0 where
  pub epoch : ℕ
  pub ballot : Ballot
  pub is : y ≡ msg.Accept epoch ballot q
  pub most : by_majority ps n epoch ballot ≡ true
  pub of : q.epoch ≡ e

decides : (ps : List Packet) (n e : ℕ) (y : Msg) (q : Layout) → of_epoch e (decided_by ps n y) ≡ Some q → Decides ps n e y q
decides ps n e (msg.Accept f b p) q h = by (by_majority ps n f b) refl h
  where
    at : (d : Bool) → (p.epoch == e) ≡ d → by_majority ps n f b ≡ true → where_true d p ≡ Some q → Decides ps n e (msg.Accept f b p) q
    at true i t h = record { epoch = f; ballot = b; is = ap (λ (z : Layout). msg.Accept f b z) (some_same p q h); most = t; of = ap (λ (z : Layout). z.epoch) (sym (some_same p q h)) ∙ same p.epoch e i }
      where
        some_same : (x y : Layout) → Some x ≡ Some y → x ≡ y
        some_same x y e = cc

        same : (a b : ℕ) → (a == b) ≡ true → a ≡ b
        same a b h = grind arith
    at false i t h = absurd (cc)

    by : (c : Bool) → by_majority ps n f b ≡ c → of_epoch e (where_true c p) ≡ Some q → Decides ps n e (msg.Accept f b p) q
    by true t h = at (p.epoch == e) refl t h
    by false t h = absurd (cc)
decides ps n e y q h = absurd (cc)

chosen_found : (ps : List Packet) (n e : ℕ) (q : Layout) → ((f : ℕ) → Truth f n (OfEpoch f) ps) → Found ps n e ps q → Chosen ps n e q
chosen_found ps n e q truth f =
    let d = decides ps n e f.packet.msg q f.is in
    let p : Proposed d.epoch ps d.ballot q = record { packet = f.packet; sent = f.has; is = d.is } in
    let same : d.epoch ≡ e = sym ((truth d.epoch).allowed d.ballot q p) ∙ d.of in
    record { ballot = d.ballot; proposed = subst (λ (g : ℕ). Proposed g ps d.ballot q) same p; accepted = subst (λ (g : ℕ). by_majority ps n g d.ballot ≡ true) same d.most }

pub lt_true : (n k : ℕ) → n < k + k → nat_lt n (k + k) ≡ true
lt_true n k less = grind arith

still_decides : (ps : List Packet) (n e f : ℕ) (b : Ballot) (q : Layout) → by_majority ps n f b ≡ true → q.epoch ≡ e → of_epoch e (decided_by ps n (msg.Accept f b q)) ≡ Some q
still_decides ps n e f b q most of = grind arith

stays_by : (m : Meaning) (h : Header) (xs ys : Moves m) (e : ℕ) (q : Layout) → decided (first_layout h) (after m h xs).packets h.layouts e ≡ Some q → decided (first_layout h) (after m h (xs ++ ys)).packets h.layouts e ≡ Some q
unfolding decided
stays_by m h xs ys e q is = by (e == 1) is
  where
    n : ℕ
    n = h.layouts

    ps : List Packet
    ps = (after m h xs).packets

    qs : List Packet
    qs = (after m h (xs ++ ys)).packets

    later : (f : Found ps n e ps q) → Some' (decided_among qs n e qs)
    later f =
        let d = decides ps n e f.packet.msg q f.is in
        let most = lt_true n _ (most_more n _ _ d.most (acceptances_more ps qs d.epoch d.ballot n (more m h xs ys))) in
        among_some qs n e qs f.packet q (more m h xs ys f.packet f.has) (ap (λ (y : Msg). of_epoch e (decided_by qs n y)) d.is ∙ still_decides qs n e d.epoch d.ballot q most d.of)

    by : (b : Bool) → (if b then Some (first_layout h) else decided_among ps n e ps) ≡ Some q → (if b then Some (first_layout h) else decided_among qs n e qs) ≡ Some q
    by true i = i
    by false i =
        let f = among_found ps n e ps q i in
        let s = later f in
        let same = one_chosen m h xs ys e q s.it (chosen_found ps n e q (pax m h xs) f) (chosen_found qs n e s.it (pax m h (xs ++ ys)) (among_found qs n e qs s.it s.is)) in
        s.is ∙ ap (λ (x : Layout). Some x) (sym same)

pub read_stays : (m : Meaning) (h : Header) (xs ys : Moves m) → ReadStays m (after m h xs) (after m h (xs ++ ys))
read_stays m h xs ys e q is =
    subst (λ (x : Header). decided (first_layout x) (after m h (xs ++ ys)).packets x.layouts e ≡ Some q) (sym (has_header m h (xs ++ ys)))
    (stays_by m h xs ys e q (subst (λ (x : Header). decided (first_layout x) (after m h xs).packets x.layouts e ≡ Some q) (has_header m h xs) is))
