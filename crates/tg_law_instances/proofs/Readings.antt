-- What a test that passed has found: an entry, a message, a decided layout.
use Rattle.std.proofs.Common.{◌≡◌, ◌⊎◌, ℕ, zero, suc, ◌<◌, ◌≤◌, List, [], ◌∷◌, ◌++◌, Bool, true, false, Some, refl, sym, ap, ◌∙◌, subst, inl, inr}
use Rattle.std.specs.Prelude.{◌&&◌, ◌||◌, ◌==◌, not, nat_lt, nat_le, map, filter, is_some, if◌then◌else◌, slice_index_or}
use Rattle.tg_base.specs.Layouts.{Layout}
use Rattle.tg_base.specs.declared.ids.Ballot.{Ballot}
use Rattle.tg_base.specs.declared.marks.StreamLink.{StreamLink}
use Rattle.tg_base.specs.declared.msg.Msg.{Msg}
use Rattle.tg_base.specs.declared.msg.Msg.TheVariants as msg
use Rattle.tg_base.specs.declared.packet.Packet.{Packet}
use Rattle.tg_entry.specs.declared.entry.Body.{Body}
use Rattle.tg_entry.specs.declared.entry.Body.TheVariants.{Commit, Decision, Checkpoint}
use Rattle.tg_entry.specs.declared.entry.Entry.{Entry}
use Rattle.tg_base.specs.Orders.{node_eq}
use Rattle.tg_protocol.specs.Words.{client_id, where_true, or_else}
use Rattle.tg_protocol.specs.Layouts.{first_layout}
use Rattle.tg_protocol.specs.Entries.{is_commit, decides}
use Rattle.tg_protocol.specs.Views.{Entries, decision_in, fate_in}
use Rattle.tg_protocol.specs.Logs.{entries_of, by_majority, outcome}
use Rattle.tg_protocol.specs.Worlds.{Told, log}
use Rattle.tg_protocol.specs.Chosen.{Sent, IsChosen, IsDecided}
use Rattle.tg_protocol.specs.Alike.{SentTo, SentNow, HasEntry, HasRecord, HasCommit, Outcome, HasDecision}
use Rattle.tg_law_instances.proofs.Small.{of_some}
use Rattle.tg_law_verdicts.proofs.Members.{Has, has_left, has_right, has_contained, contained_has, and_both, both_and, found, passes_somewhere}
use Rattle.tg_law_verdicts.proofs.Tests.{same_number, number_same, lt_of, le_of, of_lt}
use Rattle.tg_law_examples.proofs.SevenKinds.{kinds}
use Rattle.tg_law_instances.proofs.Same.{nodes_same}
use Rattle.tg_law_instances.proofs.Tests.{W, implies, bool_eq, heard, is_any_gone, is_full_log, is_tail, is_issued, is_any_issued, is_later, entry_here, has_record, has_commit, has_decision, outcome_is, layout_in, layouts_in, layouts, sent_from}

-- Bools.

pub then_so : (a b : Bool) → implies a b ≡ true → a ≡ true → b ≡ true
then_so true b i h = i
then_so false b i h = absurd cc

pub so_then : (a b : Bool) → (a ≡ true → b ≡ true) → implies a b ≡ true
so_then true b f = f refl
so_then false b f = refl

pub either_so : (a b : Bool) → (a || b) ≡ true → (a ≡ true) ⊎ (b ≡ true)
either_so true b h = inl refl
either_so false b h = inr h

pub bools_same : (a b : Bool) → bool_eq a b ≡ true → b ≡ a
bools_same true true h = refl
bools_same false false h = refl
bools_same true false h = absurd cc
bools_same false true h = absurd cc

pub bool_itself : (a b : Bool) → b ≡ a → bool_eq a b ≡ true
bool_itself true b e = e
bool_itself false b e = ap not e

-- Lists.

pub has_either : {X : Type 0} → (xs ys : List X) (x : X) → Has (xs ++ ys) x → Has xs x ⊎ Has ys x
has_either [] ys x h = inr h
has_either (y ∷ xs) ys x (inl e) = inl (inl e)
has_either (y ∷ xs) ys x (inr h) = elim (has_either xs ys x h) [ inl i ↦ inl (inr i) | inr j ↦ inr j ]

pub has_mapped : {X Y : Type 0} → (f : X → Y) (xs : List X) (x : X) → Has xs x → Has (map f xs) (f x)
has_mapped f [] x h = absurd h
has_mapped f (y ∷ xs) x (inl e) = inl (ap f e)
has_mapped f (y ∷ xs) x (inr h) = inr (has_mapped f xs x h)

-- what a filter leaves
pub record Left {X : Type 0} (f : X → Bool) (xs : List X) (x : X) : Type 0 where
  pub has : Has xs x
  pub passes : f x ≡ true

left_more : {X : Type 0} → (f : X → Bool) (y : X) (xs : List X) (x : X) → Left f xs x → Left f (y ∷ xs) x
left_more f y xs x l = record { has = inr l.has; passes = l.passes }

left_if : {X : Type 0} → (f : X → Bool) (y : X) (xs : List X) (x : X) (b : Bool) → f y ≡ b → (Has (filter f xs) x → Left f xs x) → Has (if b then y ∷ filter f xs else filter f xs) x → Left f (y ∷ xs) x
left_if f y xs x true t rest (inl e) = record { has = inl e; passes = ap f e ∙ t }
left_if f y xs x true t rest (inr h) = left_more f y xs x (rest h)
left_if f y xs x false t rest h = left_more f y xs x (rest h)

pub left : {X : Type 0} → (f : X → Bool) (xs : List X) (x : X) → Has (filter f xs) x → Left f xs x
left f [] x h = absurd h
left f (y ∷ xs) x h = left_if f y xs x (f y) refl (left f xs x) h

-- an index names something of a list, or what stands in place of nothing
pub index_or : {X : Type 0} → (xs : List X) (k : ℕ) (d : X) → Has xs (slice_index_or xs k d) ⊎ (slice_index_or xs k d ≡ d)
index_or [] k d = inr refl
index_or (x ∷ xs) zero d = inl (inl refl)
index_or (x ∷ xs) (suc k) d = elim (index_or xs k d) [ inl i ↦ inl (inr i) | inr e ↦ inr e ]

-- Entries.

pub record EntryAt (es : Entries) (p : ℕ) (f : Entry → Bool) : Type 0 where
  pub entry : Entry
  pub here : Has {X = ℕ × Entry} es (p, entry)
  pub passes : f entry ≡ true

pub entry_found : (es : Entries) (p : ℕ) (f : Entry → Bool) → entry_here es p f ≡ true → EntryAt es p f
entry_found es p f h =
    let x = found (λ (y : ℕ × Entry). (y.0 == p) && f y.1) es h in
    let b = and_both (x.it.0 == p) (f x.it.1) x.passes in
    record { entry = x.it.1; here = subst (λ (n : ℕ). Has {X = ℕ × Entry} es (n, x.it.1)) (same_number x.it.0 p b.0) x.has; passes = b.1 }

pub entry_is_here : (es : Entries) (p : ℕ) (f : Entry → Bool) (e : Entry) → Has {X = ℕ × Entry} es (p, e) → f e ≡ true → entry_here es p f ≡ true
entry_is_here es p f e i h = passes_somewhere (λ (y : ℕ × Entry). (y.0 == p) && f y.1) es (p, e) i (both_and (p == p) (f e) (number_same p p refl) h)

abbrev pub es_of : W → Entries
es_of w = entries_of (log kinds w)

pub in_log : (w : W) (p : ℕ) (e : Entry) → Has {X = ℕ × Entry} (es_of w) (p, e) → HasEntry kinds w p e
in_log w p e h = contained_has {X = ℕ × Entry} (es_of w) (p, e) h

pub of_log : (w : W) (p : ℕ) (e : Entry) → HasEntry kinds w p e → Has {X = ℕ × Entry} (es_of w) (p, e)
of_log w p e h = has_contained {X = ℕ × Entry} (es_of w) (p, e) h

pub record_found : (w : W) (p k x : ℕ) → has_record (es_of w) p k x ≡ true → HasRecord kinds w p k x
record_found w p k x h =
    let a = entry_found (es_of w) p (λ e. is_commit e && (e.head.client == k) && (e.head.number == x)) h in
    let b = and_both (is_commit a.entry && (a.entry.head.client == k)) (a.entry.head.number == x) a.passes in
    let c = and_both (is_commit a.entry) (a.entry.head.client == k) b.0 in
    record { record_at = a.entry; here = in_log w p a.entry a.here; commit = c.0; of_client = same_number a.entry.head.client k c.1; of_number = same_number a.entry.head.number x b.1 }

pub record_is_there : (w : W) (p k x : ℕ) → HasRecord kinds w p k x → has_record (es_of w) p k x ≡ true
record_is_there w p k x r =
    entry_is_here (es_of w) p (λ e. is_commit e && (e.head.client == k) && (e.head.number == x)) r.record_at (of_log w p r.record_at r.here)
    (both_and (is_commit r.record_at && (r.record_at.head.client == k)) (r.record_at.head.number == x)
    (both_and (is_commit r.record_at) (r.record_at.head.client == k) r.commit (number_same r.record_at.head.client k r.of_client)) (number_same r.record_at.head.number x r.of_number))

pub commit_found : (w : W) (p : ℕ) → has_commit (es_of w) p ≡ true → HasCommit kinds w p
commit_found w p h = let a = entry_found (es_of w) p is_commit h in record { record_at = a.entry; here = in_log w p a.entry a.here; commit = a.passes }

pub commit_is_there : (w : W) (p : ℕ) → HasCommit kinds w p → has_commit (es_of w) p ≡ true
commit_is_there w p c = entry_is_here (es_of w) p is_commit c.record_at (of_log w p c.record_at c.here) c.commit

pub outcome_found : (w : W) (p : ℕ) (b : Bool) → outcome_is w (es_of w) p b ≡ true → Outcome kinds w p b
outcome_found w p b h =
    let c = and_both (has_commit (es_of w) p) (bool_eq b (outcome kinds (log kinds w) p)) h in
    (commit_found w p c.0, bools_same b (outcome kinds (log kinds w) p) c.1)

pub outcome_is_so : (w : W) (p : ℕ) (b : Bool) → Outcome kinds w p b → outcome_is w (es_of w) p b ≡ true
outcome_is_so w p b o = both_and (has_commit (es_of w) p) (bool_eq b (outcome kinds (log kinds w) p)) (commit_is_there w p o.0) (bool_itself b (outcome kinds (log kinds w) p) o.1)

-- Decision records.

record DecisionIn (es : Entries) (p : ℕ) : Type 0 where
  at : ℕ
  entry : Entry
  is_yes : Bool
  here : Has {X = ℕ × Entry} es (at, entry)
  decides : entry.body ≡ Decision p is_yes

decision_more : (x : ℕ × Entry) (es : Entries) (p : ℕ) → DecisionIn es p → DecisionIn (x ∷ es) p
decision_more x es p d = record { at = d.at; entry = d.entry; is_yes = d.is_yes; here = inr d.here; decides = d.decides }

decision_if : (x : ℕ × Entry) (es : Entries) (p at : ℕ) (says b : Bool) → (at == p) ≡ b → x.1.body ≡ Decision at says → (is_some (decision_in es p) ≡ true → DecisionIn es p)
    → is_some (or_else (where_true b says) (decision_in es p)) ≡ true → DecisionIn (x ∷ es) p
decision_if x es p at says true t is rest h = record { at = x.0; entry = x.1; is_yes = says; here = inl refl; decides = is ∙ ap (λ (n : ℕ). Decision n says) (same_number at p t) }
decision_if x es p at says false t is rest h = decision_more x es p (rest h)

decision_by : (x : ℕ × Entry) (es : Entries) (p : ℕ) (b : Body) → x.1.body ≡ b → (is_some (decision_in es p) ≡ true → DecisionIn es p)
    → is_some (or_else (decides p b) (decision_in es p)) ≡ true → DecisionIn (x ∷ es) p
decision_by x es p (Decision at says) is rest h = decision_if x es p at says (at == p) refl is rest h
decision_by x es p (Commit rs ws) is rest h = decision_more x es p (rest h)
decision_by x es p (Checkpoint o u v a ks s) is rest h = decision_more x es p (rest h)

decision_found_in : (es : Entries) (p : ℕ) → is_some (decision_in es p) ≡ true → DecisionIn es p
unfolding decision_in
decision_found_in [] p h = absurd cc
decision_found_in (x ∷ es) p h = decision_by x es p x.1.body refl (decision_found_in es p) h

pub decision_found : (w : W) (p : ℕ) → has_decision (es_of w) p ≡ true → HasDecision kinds w p
decision_found w p h = let d = decision_found_in (es_of w) p h in record { at = d.at; entry = d.entry; is_yes = d.is_yes; here = in_log w d.at d.entry d.here; decides = d.decides }

-- a fate that is kept

kept_by : (x : ℕ × Bool) (xs : List (ℕ × Bool)) (p : ℕ) (b c : Bool) → (x.0 == p) ≡ c → (fate_in kinds xs p ≡ Some b → Has {X = ℕ × Bool} xs (p, b))
    → (if c then Some x.1 else fate_in kinds xs p) ≡ Some b → Has {X = ℕ × Bool} (x ∷ xs) (p, b)
kept_by x xs p b true t rest f =
    let n = sym (same_number x.0 p t) in
    let y = sym (of_some x.1 b f) in
    inl (λ i. (n i, y i))
kept_by x xs p b false t rest f = inr (rest f)

pub fate_kept : (xs : List (ℕ × Bool)) (p : ℕ) (b : Bool) → fate_in kinds xs p ≡ Some b → Has {X = ℕ × Bool} xs (p, b)
fate_kept [] p b e = absurd cc
fate_kept (x ∷ xs) p b e = kept_by x xs p b (x.0 == p) refl (fate_kept xs p b) e

-- Messages.

pub record Heard (w : W) (k next : ℕ) (f : Msg → Bool) : Type 0 where
  pub packet : Packet
  pub sent : Sent kinds w packet
  pub to : packet.to ≡ client_id k
  pub now : next ≤ packet.rid
  pub passes : f packet.msg ≡ true

heard_by : (w : W) (k next : ℕ) (f : Msg → Bool) (p : Packet) → Has w.packets p → (node_eq p.to (client_id k) && nat_le next p.rid && f p.msg) ≡ true → Heard w k next f
heard_by w k next f p i h =
    let b = and_both (node_eq p.to (client_id k) && nat_le next p.rid) (f p.msg) h in
    let c = and_both (node_eq p.to (client_id k)) (nat_le next p.rid) b.0 in
    record { packet = p; sent = contained_has w.packets p i; to = nodes_same p.to (client_id k) c.0; now = le_of next p.rid c.1; passes = b.1 }

pub heard_found : (w : W) (k next : ℕ) (f : Msg → Bool) → heard w k next f ≡ true → Heard w k next f
heard_found w k next f h =
    let x = found (λ (p : Packet). node_eq p.to (client_id k) && nat_le next p.rid && f p.msg) w.packets h in
    heard_by w k next f x.it x.has x.passes

pub record HeardIt (w : W) (k next : ℕ) (f : Msg → Bool) (p : Packet) : Type 0 where
  pub heard : Heard w k next f
  pub is : heard.packet ≡ p

pub sent_found : (w : W) (k next : ℕ) (f : Msg → Bool) (p : Packet) → Has (sent_from w k next f) p → HeardIt w k next f p
unfolding heard_by
sent_found w k next f p i =
    let l = left (λ (q : Packet). node_eq q.to (client_id k) && nat_le next q.rid && f q.msg) w.packets p i in
    record { heard = heard_by w k next f p l.has l.passes; is = refl }

pub sent_to : (w : W) (k next : ℕ) (f : Msg → Bool) (x : Msg) → (h : Heard w k next f) → h.packet.msg ≡ x → SentTo kinds w k h.packet.rid x
sent_to w k next f x h is = record { packet = h.packet; sent = h.sent; to = h.to; number = refl; says = is }

pub sent_now : (w : W) (t : Told kinds) (f : Msg → Bool) (x : Msg) → (h : Heard w t.mark.client t.noted.next f) → h.packet.msg ≡ x → SentNow kinds w t x
sent_now w t f x h is = record { rid = h.packet.rid; now = h.now; sent = sent_to w t.mark.client t.noted.next f x h is }

pub record AnIssued (p : ℕ) (f : List StreamLink → Bool) (x : Msg) : Type 0 where
  pub links : List StreamLink
  pub is : x ≡ msg.Issued p links
  pub passes : f links ≡ true

pub issued_is : (p : ℕ) (f : List StreamLink → Bool) (x : Msg) → is_issued p f x ≡ true → AnIssued p f x
issued_is p f (msg.Issued q ls) h = let b = and_both (p == q) (f ls) h in record { links = ls; is = ap (λ (n : ℕ). msg.Issued n ls) (sym (same_number p q b.0)); passes = b.1 }
issued_is p f x h = absurd cc

pub record SomeIssued (x : Msg) : Type 0 where
  pub pos : ℕ
  pub links : List StreamLink
  pub is : x ≡ msg.Issued pos links

pub some_issued : (x : Msg) → is_any_issued x ≡ true → SomeIssued x
some_issued (msg.Issued q ls) h = record { pos = q; links = ls; is = refl }
some_issued x h = absurd cc

pub record ATail (f : ℕ → Bool) (x : Msg) : Type 0 where
  pub tail : ℕ
  pub links : List StreamLink
  pub is : x ≡ msg.Tail tail links
  pub passes : f tail ≡ true

pub tail_is : (f : ℕ → Bool) (x : Msg) → is_tail f x ≡ true → ATail f x
tail_is f (msg.Tail t ls) h = record { tail = t; links = ls; is = refl; passes = h }
tail_is f x h = absurd cc

pub record AFull (x : Msg) : Type 0 where
  pub limit : ℕ
  pub is : x ≡ msg.Full limit

pub full_is : (x : Msg) → is_full_log x ≡ true → AFull x
full_is (msg.Full n) h = record { limit = n; is = refl }
full_is x h = absurd cc

pub record AGone (x : Msg) : Type 0 where
  pub below : ℕ
  pub is : x ≡ msg.Gone below

pub gone_is : (x : Msg) → is_any_gone x ≡ true → AGone x
gone_is (msg.Gone b) h = record { below = b; is = refl }
gone_is x h = absurd cc

pub record ALatest (e : ℕ) (x : Msg) : Type 0 where
  pub layout : Layout
  pub is : x ≡ msg.Latest layout
  pub later : e < layout.epoch

pub later_is : (e : ℕ) (x : Msg) → is_later e x ≡ true → ALatest e x
later_is e (msg.Latest q) h = record { layout = q; is = refl; later = lt_of e q.epoch h }
later_is e x h = absurd cc

-- Decided layouts.

abbrev IsListed : W → ℕ × Layout → Type 0
IsListed w x = IsDecided kinds w x.0 x.1

decided_if : (w : W) (p : Packet) (e : ℕ) (b : Ballot) (q : Layout) (x : ℕ × Layout) (t : Bool) → (nat_lt 1 e && by_majority w.packets w.cluster.layouts e b) ≡ t → p.msg ≡ msg.Accept e b q → Has w.packets p
    → Has {X = ℕ × Layout} (if t then (e, q) ∷ [] else []) x → IsListed w x
decided_if w p e b q x true t m i (inl k) =
    let c = and_both (nat_lt 1 e) (by_majority w.packets w.cluster.layouts e b) t in
    let chosen : IsChosen kinds w e q = record { ballot = b; proposal = p; sent = contained_has w.packets p i; proposes = m; accepted = c.1 } in
    subst (λ (z : ℕ × Layout). IsDecided kinds w z.0 z.1) (sym k) (inr (lt_of 1 e c.0, chosen))
decided_if w p e b q x true t m i (inr k) = absurd k
decided_if w p e b q x false t m i k = absurd k

decided_in : (w : W) (p : Packet) (m : Msg) (x : ℕ × Layout) → p.msg ≡ m → Has w.packets p → Has {X = ℕ × Layout} (layout_in w m) x → IsListed w x
decided_in w p (msg.Accept e b q) x is i h = decided_if w p e b q x (nat_lt 1 e && by_majority w.packets w.cluster.layouts e b) refl is i h
decided_in w p m x is i h = absurd h

layouts_decided_in : (w : W) (ps : List Packet) (x : ℕ × Layout) → ((p : Packet) → Has ps p → Has w.packets p) → Has {X = ℕ × Layout} (layouts_in w ps) x → IsListed w x
layouts_decided_in w [] x all (inl e) = inl (ap (λ (y : ℕ × Layout). y.0) e, ap (λ (y : ℕ × Layout). y.1) e)
layouts_decided_in w [] x all (inr h) = absurd h
layouts_decided_in w (p ∷ ps) x all h =
    elim (has_either (layout_in w p.msg) (layouts_in w ps) x h) [
      | inl i ↦ decided_in w p p.msg x refl (all p (inl refl)) i
      | inr j ↦ layouts_decided_in w ps x (λ q i. all q (inr i)) j
    ]

pub layouts_decided : (w : W) (x : ℕ × Layout) → Has {X = ℕ × Layout} (layouts w) x → IsDecided kinds w x.0 x.1
layouts_decided w x h = layouts_decided_in w w.packets x (λ p i. i) h

-- each decided layout is listed

listed_if : (e : ℕ) (q : Layout) (t : Bool) → t ≡ true → Has {X = ℕ × Layout} (if t then (e, q) ∷ [] else []) (e, q)
listed_if e q true t = inl refl
listed_if e q false t = absurd cc

listed_here : (w : W) (m : Msg) (e : ℕ) (b : Ballot) (q : Layout) → m ≡ msg.Accept e b q → (nat_lt 1 e && by_majority w.packets w.cluster.layouts e b) ≡ true → Has {X = ℕ × Layout} (layout_in w m) (e, q)
listed_here w m e b q is t =
    subst (λ (x : Msg). Has {X = ℕ × Layout} (layout_in w x) (e, q)) (sym is) (listed_if e q (nat_lt 1 e && by_majority w.packets w.cluster.layouts e b) t)

first_listed : (w : W) (ps : List Packet) → Has {X = ℕ × Layout} (layouts_in w ps) (1, first_layout w.cluster)
first_listed w [] = inl refl
first_listed w (p ∷ ps) = has_right (layout_in w p.msg) (layouts_in w ps) (1, first_layout w.cluster) (first_listed w ps)

listed_at : (w : W) (ps : List Packet) (p : Packet) (e : ℕ) (b : Ballot) (q : Layout) → Has ps p → p.msg ≡ msg.Accept e b q → (nat_lt 1 e && by_majority w.packets w.cluster.layouts e b) ≡ true
    → Has {X = ℕ × Layout} (layouts_in w ps) (e, q)
listed_at w [] p e b q i is t = absurd i
listed_at w (r ∷ ps) p e b q (inl k) is t = has_left (layout_in w r.msg) (layouts_in w ps) (e, q) (listed_here w r.msg e b q (ap (λ (y : Packet). y.msg) (sym k) ∙ is) t)
listed_at w (r ∷ ps) p e b q (inr i) is t = has_right (layout_in w r.msg) (layouts_in w ps) (e, q) (listed_at w ps p e b q i is t)

pub decided_listed : (w : W) (e : ℕ) (q : Layout) → IsDecided kinds w e q → Has {X = ℕ × Layout} (layouts w) (e, q)
decided_listed w e q (inl d) = subst (λ (x : ℕ × Layout). Has {X = ℕ × Layout} (layouts w) x) (λ i. (sym d.0 i, sym d.1 i)) (first_listed w w.packets)
decided_listed w e q (inr d) =
    let c = d.1 in
    listed_at w w.packets c.proposal e c.ballot q (has_contained w.packets c.proposal c.sent) c.proposes
    (both_and (nat_lt 1 e) (by_majority w.packets w.cluster.layouts e c.ballot) (of_lt 1 e d.0) c.accepted)
