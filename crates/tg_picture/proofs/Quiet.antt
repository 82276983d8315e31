-- The decided layouts are the same without packets that aren't votes.
use Rattle.std.specs.Prelude.{◌≡◌, ◌≤◌, ℕ, zero, suc, ◌+◌, Bool, true, false, not, ◌&&◌, ◌||◌, nat_lt, List, [], ◌∷◌, ◌++◌, take, drop, slice_get, Option, None, if◌then◌else◌, refl}
use Rattle.std.specs.List.{list_any}
use Rattle.std.proofs.Common.{sym, ap, ◌∙◌, arith}
use Rattle.std.proofs.lemmas.Bool.Decides.{nat_tests}
use Rattle.std.proofs.lemmas.List.{take-append-drop, take-take}
use Rattle.std.proofs.lemmas.List.Folds.{list_any-append}
use Rattle.tg_base.specs.Layouts.{Layout}
use Rattle.tg_base.specs.Orders.{node_eq}
use Rattle.tg_base.specs.declared.ids.Ballot.{Ballot}
use Rattle.tg_base.specs.declared.msg.Msg.{Msg}
use Rattle.tg_base.specs.declared.msg.Msg.TheVariants as msg
use Rattle.tg_base.specs.declared.packet.Packet.{Packet}
use Rattle.tg_protocol.specs.Logs.{is_acceptance, has_accepted, acceptances, by_majority, decided_by, newer, newest_among, newest}
use Rattle.tg_protocol.specs.Words.{layout_id, where_true}
use Rattle.tg_picture.specs.Bands.{decision_of, decision_at, epoch_after}
use Rattle.tg_picture.specs.Courses.{sent_by, sent_before}
use Rattle.tg_picture.specs.Quiet.{is_vote, is_quiet}
use Rattle.tg_picture.specs.declared.steps.Step.{Step}

abbrev has_vote : List Packet → Bool
has_vote ps = list_any (λ (p : Packet). is_vote p.msg) ps

-- ---- one packet

accepts_nothing : (m : Msg) (e : ℕ) (b : Ballot) → is_vote m ≡ false → is_acceptance e b m ≡ false
accepts_nothing (msg.Accepted f c) e b h = absurd cc
accepts_nothing _ e b h = refl

proposes_nothing : (m : Msg) (ps : List Packet) (layouts : ℕ) → is_vote m ≡ false → decided_by ps layouts m ≡ None
proposes_nothing (msg.Accept e b q) ps layouts h = absurd cc
proposes_nothing _ ps layouts h = refl

-- ---- packets at the end

head_of : (a b : Bool) → (a || b) ≡ false → a ≡ false
head_of true b h = absurd cc
head_of false b h = refl

rest_of : (a b : Bool) → (a || b) ≡ false → b ≡ false
rest_of true b h = absurd cc
rest_of false b h = h

or_false : (a b : Bool) → b ≡ false → (a || b) ≡ a
or_false true b h = refl
or_false false b h = h

both_false : (a b c : Bool) → b ≡ false → c ≡ false → ((a && b) || c) ≡ false
both_false true b c h k = ap (λ (t : Bool). t || c) h ∙ k
both_false false b c h k = k

accept_nothing : (ps : List Packet) (e : ℕ) (b : Ballot) (n : ℕ) → has_vote ps ≡ false → has_accepted ps e b n ≡ false
accept_nothing [] e b n h = refl
accept_nothing (p ∷ ps) e b n h =
    both_false (node_eq p.from (layout_id n)) (is_acceptance e b p.msg) (has_accepted ps e b n)
    (accepts_nothing p.msg e b (head_of (is_vote p.msg) (has_vote ps) h)) (accept_nothing ps e b n (rest_of (is_vote p.msg) (has_vote ps) h))

same_accepted : (ps qs : List Packet) (e : ℕ) (b : Ballot) (n : ℕ) → has_vote qs ≡ false → has_accepted (ps ++ qs) e b n ≡ has_accepted ps e b n
same_accepted ps qs e b n h =
    list_any-append (λ (p : Packet). node_eq p.from (layout_id n) && is_acceptance e b p.msg) ps qs ∙ or_false (has_accepted ps e b n) (has_accepted qs e b n) (accept_nothing qs e b n h)

same_count : (ps qs : List Packet) (e : ℕ) (b : Ballot) (n : ℕ) → has_vote qs ≡ false → acceptances (ps ++ qs) e b n ≡ acceptances ps e b n
same_count ps qs e b zero h = refl
same_count ps qs e b (suc n) h =
    ap (λ (t : Bool). (if t then 1 else 0) + acceptances (ps ++ qs) e b n) (same_accepted ps qs e b n h)
    ∙ ap (λ (k : ℕ). (if has_accepted ps e b n then 1 else 0) + k) (same_count ps qs e b n h)

same_majority : (ps qs : List Packet) (layouts e : ℕ) (b : Ballot) → has_vote qs ≡ false → by_majority (ps ++ qs) layouts e b ≡ by_majority ps layouts e b
same_majority ps qs layouts e b h = ap (λ (k : ℕ). nat_lt layouts (k + k)) (same_count ps qs e b layouts h)

same_decided : (ps qs : List Packet) (layouts : ℕ) (m : Msg) → has_vote qs ≡ false → decided_by (ps ++ qs) layouts m ≡ decided_by ps layouts m
same_decided ps qs layouts (msg.Accept e b q) h = ap (λ (t : Bool). where_true t q) (same_majority ps qs layouts e b h)
same_decided ps qs layouts _ h = refl

same_newest : (ps qs : List Packet) (layouts : ℕ) (p : Layout) (xs : List Packet) → has_vote qs ≡ false → newest_among (ps ++ qs) layouts p xs ≡ newest_among ps layouts p xs
same_newest ps qs layouts p [] h = refl
same_newest ps qs layouts p (x ∷ xs) h =
    ap (λ (o : Option Layout). newest_among (ps ++ qs) layouts (newer p o) xs) (same_decided ps qs layouts x.msg h)
    ∙ same_newest ps qs layouts (newer p (decided_by ps layouts x.msg)) xs h

none_newer : (ps : List Packet) (layouts : ℕ) (p : Layout) (qs : List Packet) → has_vote qs ≡ false → newest_among ps layouts p qs ≡ p
none_newer ps layouts p [] h = refl
none_newer ps layouts p (q ∷ qs) h =
    ap (λ (o : Option Layout). newest_among ps layouts (newer p o) qs) (proposes_nothing q.msg ps layouts (head_of (is_vote q.msg) (has_vote qs) h))
    ∙ none_newer ps layouts p qs (rest_of (is_vote q.msg) (has_vote qs) h)

newest_then : (ps : List Packet) (layouts : ℕ) (p : Layout) (xs qs : List Packet) → has_vote qs ≡ false → newest_among ps layouts p (xs ++ qs) ≡ newest_among ps layouts p xs
newest_then ps layouts p [] qs h = none_newer ps layouts p qs h
newest_then ps layouts p (x ∷ xs) qs h = newest_then ps layouts (newer p (decided_by ps layouts x.msg)) xs qs h

stays_newest : (first : Layout) (ps qs : List Packet) (layouts : ℕ) → has_vote qs ≡ false → newest first (ps ++ qs) layouts ≡ newest first ps layouts
unfolding newest
stays_newest first ps qs layouts h = same_newest ps qs layouts first (ps ++ qs) h ∙ newest_then ps layouts first ps qs h

-- ---- steps

no_vote : (less vote : Bool) → (if less then false else not vote) ≡ true → vote ≡ false
no_vote true vote h = absurd cc
no_vote false true h = absurd cc
no_vote false false h = refl

not_less : (less vote : Bool) → (if less then false else not vote) ≡ true → less ≡ false
not_less true vote h = absurd cc
not_less false vote h = refl

same_epoch : (first : Layout) (layouts : ℕ) (ps : List Packet) (before after : ℕ) → is_quiet ps before after ≡ true → epoch_after first layouts ps after ≡ epoch_after first layouts ps before
same_epoch first layouts ps before after h =
    let sent = take after ps in
    let more = drop before sent in
    let in_order = not_less (nat_lt after before) (has_vote more) h in
    let few : before ≤ after = grind (arith, nat_tests, in_order) in
    let parts : take before ps ++ more ≡ sent = ap (λ (qs : List Packet). qs ++ more) (sym (take-take before after ps few)) ∙ take-append-drop before sent in
    ap (λ (qs : List Packet). (newest first qs layouts).epoch) (sym parts)
    ∙ ap (λ (q : Layout). q.epoch) (stays_newest first (take before ps) more layouts (no_vote (nat_lt after before) (has_vote more) h))

none_between : (k e f : ℕ) → f ≡ e → decision_of k e f ≡ None
none_between k e f h = grind (arith, nat_tests, h)

-- in a step without a vote nothing is decided
pub quiet_decides_nothing : (first : Layout) (layouts : ℕ) (ps : List Packet) (ss : List Step) (k : ℕ)
    → is_quiet ps (sent_before ss k) (sent_by (slice_get ss k)) ≡ true → None ≡ decision_at first layouts ps ss k
quiet_decides_nothing first layouts ps ss k h =
    sym (none_between k (epoch_after first layouts ps (sent_before ss k)) (epoch_after first layouts ps (sent_by (slice_get ss k)))
    (same_epoch first layouts ps (sent_before ss k) (sent_by (slice_get ss k)) h))

-- as it is found step by step
pub quiet_found : (first : Layout) (layouts : ℕ) (ps : List Packet) (ss : List Step) (k before after : ℕ) (found : Bool)
    → before ≡ sent_before ss k → after ≡ sent_by (slice_get ss k) → found ≡ is_quiet ps before after → found ≡ true → None ≡ decision_at first layouts ps ss k
quiet_found first layouts ps ss k before after found b a told so =
    quiet_decides_nothing first layouts ps ss k ((λ i. is_quiet ps (sym b i) (sym a i)) ∙ sym told ∙ so)
