-- Tests of a step that passed prove the causes of its refusals, and that what has a cause at once is refused.
use Rattle.std.proofs.Common.{◌≡◌, ◌⊎◌, ℕ, ◌<◌, ◌≤◌, length, Bool, true, false, Option, Some, None, refl, sym, ap, ◌∙◌, subst, inl, inr, arith}
use Rattle.std.specs.Prelude.{is_some, nat_lt, nat_le, not, ◌&&◌, ◌||◌, ◌==◌, Contains, if◌then◌else◌}
use Rattle.std.specs.List.{list_any}
use Rattle.tg_base.specs.declared.fault.Many.{Many}
use Rattle.tg_base.specs.declared.fault.Many.TheVariants as many
use Rattle.tg_base.specs.declared.ids.Oid.{Oid}
use Rattle.tg_base.specs.declared.marks.ReadMark.{ReadMark}
use Rattle.tg_base.specs.declared.msg.Msg.{Msg}
use Rattle.tg_base.specs.declared.msg.Msg.TheVariants as msg
use Rattle.tg_entry.specs.declared.entry.Entry.{Entry}
use Rattle.tg_model.specs.declared.command.Command.TheVariants as cmd
use Rattle.tg_model.specs.declared.command.Word.{Word}
use Rattle.tg_model.specs.declared.command.Word.TheVariants as word
use Rattle.tg_model.specs.declared.refusal.Refusal.{Refusal}
use Rattle.tg_model.specs.declared.refusal.Refusal.TheVariants as cause
use Rattle.tg_model.specs.declared.trace.What.TheVariants as told
use Rattle.tg_model.specs.Kinds.{CommandOf, WhatOf}
use Rattle.tg_model.specs.Words.{word_of}
use Rattle.tg_model.specs.Stores.{state_at}
use Rattle.tg_protocol.specs.Words.{client_id, unit_id, numbers, directory}
use Rattle.tg_base.specs.Orders.{oid_eq}
use Rattle.tg_entry.specs.Needs.{needs_decision, reads_of}
use Rattle.tg_protocol.specs.Entries.{is_commit, lists}
use Rattle.tg_protocol.specs.Views.{View, decision_in}
use Rattle.tg_protocol.specs.Transactions.{Tx}
use Rattle.tg_protocol.specs.Checkpoints.{base_at}
use Rattle.tg_protocol.specs.Logs.{path}
use Rattle.tg_protocol.specs.Clients.{Work, hosts_oid}
use Rattle.tg_protocol.specs.Stuck.{asks_for, command_in, WalkMetTrim, StuckTrue}
use Rattle.tg_protocol.specs.Worlds.{Told, client, runs, log, history, happens}
use Rattle.tg_protocol.specs.Walked.{Walked, walked_in, entries_had}
use Rattle.tg_protocol.specs.Playing.{Replies}
use Rattle.tg_protocol.specs.Alike.{SentNow}
use Rattle.tg_protocol.specs.Causes.{most, is_at, is_of_tx, IsWrong, Names, AsksOf, would_be, layout_cause, CauseAtOnce, HasReadOf, IsOutOfReach, CantKnow, HasNoBase, IsOpen, Answered, NamedTrimmed, OwnTrimmed, IsLook, IsAhead, IsTooLarge, IsForget, IsRescue, CauseLater, command_at, HasCause, RefusalsTrue, CausesRefuse}
use Rattle.tg_law_instances.proofs.Small.{clash, is_none}
use Rattle.tg_law_verdicts.proofs.Members.{Has, has_contained, contained_has, and_both, both_and, not_true, found, passes_somewhere, all_pass}
use Rattle.tg_law_verdicts.proofs.Tests.{same_number, same_oid, le_of, lt_of, of_le, of_lt}
use Rattle.tg_law_examples.proofs.SevenKinds.{kinds}
use Rattle.tg_law_instances.proofs.Readings.{then_so, either_so, bools_same, es_of, in_log, of_log, entry_found, heard_found, sent_now, tail_is, gone_is}
use Rattle.tg_law_instances.proofs.LogSound.{tail_by}
use Rattle.tg_law_instances.proofs.HeadlineSound.{answered_found, overtaken_by}
use Rattle.tg_law_instances.proofs.Tests.{W, E, implies, bool_eq, heard_now, is_gone, is_any_gone, is_full, is_tail, entry_here, answered, tail_links}
use Rattle.tg_law_instances.proofs.StepTests.{replies, says, is_refused, is_idle, wrong, named, asked_of, is_oid, some_oid, unregistered, too_many, size_with, cause_tests, has_cause, word_code, busy_with, same_cause, is_cause, at_once, refuse_ok, reads_oid, lacks, least_by, reads_at, asks_gone, path_is_gone, walk_met_trim, cant_know, base_to, no_base, named_trimmed, own_trimmed, is_missing, is_has, ahead, forget_is, size_of, checkpoint_size, is_rescue, is_wide, later_cause, cause_by, caused, causes_ok, stuck_of, stuck_ok}
use Rattle.tg_law_instances.proofs.Steps.{reply_has, says_it}
use Rattle.tg_law_instances.proofs.PlaySound.{unknown_of, lacks_of}

-- Causes at once are tested.

some_work : (o : Option (Work kinds)) (v : Work kinds) → o ≡ Some v → not (is_idle o) ≡ true
some_work None v e = absurd cc
some_work (Some x) v e = refl

none_tx : (o : Option Tx) → o ≡ None → not (is_some o) ≡ true
none_tx None e = refl
none_tx (Some t) e = absurd cc

-- the object that a command names wrongly

wrong_if : (b : Bool) (o : Oid) → b ≡ false → is_some (if b then None else Some o) ≡ true
wrong_if true o e = absurd cc
wrong_if false o e = refl

is_wrong : (x : CommandOf kinds) (o : Oid) → IsWrong kinds x o → is_some (wrong x) ≡ true
is_wrong (cmd.Put p op) o h = wrong_if (kinds.allows p op) p (ap (λ (r : Oid). kinds.allows r op) h.0 ∙ h.1)
is_wrong (cmd.Ask p q) o h = wrong_if (kinds.allows_ask p q) p (ap (λ (r : Oid). kinds.allows_ask r q) h.0 ∙ h.1)
is_wrong (cmd.AskAt at p q) o h = wrong_if (kinds.allows_ask p q) p (ap (λ (r : Oid). kinds.allows_ask r q) h.0 ∙ h.1)
is_wrong x o h = absurd h

is_named : (x : CommandOf kinds) (o : Oid) (f : Oid → Bool) → Names kinds x o → f o ≡ true → some_oid f (named x) ≡ true
is_named (cmd.Host p) o f h t = ap f h ∙ t
is_named (cmd.Put p op) o f h t = ap f h ∙ t
is_named x o f h t = absurd h

is_asked : (x : CommandOf kinds) (o : Oid) (f : Oid → Bool) → AsksOf kinds x o → f o ≡ true → some_oid f (asked_of x) ≡ true
is_asked (cmd.Ask p q) o f h t = ap f h ∙ t
is_asked (cmd.Checkpoint p) o f h t = ap f h ∙ t
is_asked (cmd.Forget p n) o f h t = ap f h ∙ t
is_asked (cmd.AskAt at p q) o f h t = ap f h ∙ t
is_asked x o f h t = absurd h

some_is : (o : Option Refusal) (why : Refusal) → o ≡ Some why → is_some o ≡ true
some_is None why e = absurd cc
some_is (Some x) why e = refl

is_tested : (w : W) (k : ℕ) (x : CommandOf kinds) (b : Bool) → Has (cause_tests w k x) b → b ≡ true → has_cause w k x ≡ true
is_tested w k x b i t = passes_somewhere (λ (c : Bool). c) (cause_tests w k x) b i t

many_is : (w : W) (k : ℕ) (x : CommandOf kinds) (what : Many) → most what < would_be kinds (client kinds w k) x what → has_cause w k x ≡ true
many_is w k x many.Streams h = is_tested w k x (too_many w k x many.Streams) (inr (inr (inr (inr (inr (inr (inl refl))))))) (of_lt (most many.Streams) (would_be kinds (client kinds w k) x many.Streams) h)
many_is w k x many.Reads h = is_tested w k x (too_many w k x many.Reads) (inr (inr (inr (inr (inr (inr (inr (inl refl)))))))) (of_lt (most many.Reads) (would_be kinds (client kinds w k) x many.Reads) h)
many_is w k x many.Writes h = is_tested w k x (too_many w k x many.Writes) (inr (inr (inr (inr (inr (inr (inr (inr (inl refl))))))))) (of_lt (most many.Writes) (would_be kinds (client kinds w k) x many.Writes) h)
many_is w k x many.Hosted h = is_tested w k x (too_many w k x many.Hosted) (inr (inr (inr (inr (inr (inr (inr (inr (inr (inl refl)))))))))) (of_lt (most many.Hosted) (would_be kinds (client kinds w k) x many.Hosted) h)
many_is w k x many.Ranges h = is_tested w k x (too_many w k x many.Ranges) (inr (inr (inr (inr (inr (inr (inr (inr (inr (inr (inl refl))))))))))) (of_lt (most many.Ranges) (would_be kinds (client kinds w k) x many.Ranges) h)
many_is w k x many.Units h = is_tested w k x (too_many w k x many.Units) (inr (inr (inr (inr (inr (inr (inr (inr (inr (inr (inr (inl refl)))))))))))) (of_lt (most many.Units) (would_be kinds (client kinds w k) x many.Units) h)

layout_is : (w : W) (k : ℕ) (x : CommandOf kinds) (why : Refusal) → layout_cause kinds (client kinds w k).stand x ≡ Some why → has_cause w k x ≡ true
layout_is w k x why h =
    is_tested w k x (is_some (layout_cause kinds (client kinds w k).stand x)) (inr (inr (inr (inr (inr (inr (inr (inr (inr (inr (inr (inr (inr (inl refl))))))))))))))
    (some_is (layout_cause kinds (client kinds w k).stand x) why h)

large_is : (w : W) (k n : ℕ) (x : CommandOf kinds) → 4096 < n → n ≡ size_with w k x → nat_lt 4096 (size_with w k x) ≡ true
large_is w k n x less is = of_lt 4096 (size_with w k x) (omega (arith, less, is))

cause_is : (w : W) (k : ℕ) (x : CommandOf kinds) (why : Refusal) → CauseAtOnce kinds w k x why → has_cause w k x ≡ true
cause_is w k x (cause.Busy word) h = is_tested w k x (not (is_idle (client kinds w k).work)) (inl refl) (some_work (client kinds w k).work h.0 h.1)
cause_is w k x cause.NoTx h =
    is_tested w k x (is_of_tx kinds x && not (is_some (client kinds w k).tx)) (inr (inl refl)) (both_and (is_of_tx kinds x) (not (is_some (client kinds w k).tx)) h.0 (none_tx (client kinds w k).tx h.1))
cause_is w k x cause.TxOpen h =
    is_tested w k x (not (is_of_tx kinds x) && is_some (client kinds w k).tx) (inr (inr (inl refl))) (both_and (not (is_of_tx kinds x)) (is_some (client kinds w k).tx) (ap not h.0) h.1)
cause_is w k x (cause.WrongKind o) h = is_tested w k x (is_some (wrong x)) (inr (inr (inr (inl refl)))) (is_wrong x o h)
cause_is w k x (cause.NotRegistered o) h =
    is_tested w k x (some_oid (unregistered w k) (named x)) (inr (inr (inr (inr (inl refl))))) (is_named x o (unregistered w k) h.0 (ap not h.1))
cause_is w k x (cause.NotHosted o) h =
    is_tested w k x (some_oid (λ p. not (hosts_oid kinds (client kinds w k) p)) (asked_of x)) (inr (inr (inr (inr (inr (inl refl))))))
    (is_asked x o (λ p. not (hosts_oid kinds (client kinds w k) p)) h.0 (ap not h.1))
cause_is w k x (cause.TooMany what) h = many_is w k x what h
cause_is w k x (cause.TooLarge n) h =
    is_tested w k x (nat_lt 4096 (size_with w k x)) (inr (inr (inr (inr (inr (inr (inr (inr (inr (inr (inr (inr (inl refl))))))))))))) (large_is w k n x h.0 h.1)
cause_is w k x (cause.NotClosed r) h = layout_is w k x (cause.NotClosed r) h
cause_is w k x (cause.NoStripe r s) h = layout_is w k x (cause.NoStripe r s) h
cause_is w k x (cause.InChain u) h = layout_is w k x (cause.InChain u) h
cause_is w k x (cause.Returned u) h = layout_is w k x (cause.Returned u) h
cause_is w k x (cause.NoReplica r s) h = layout_is w k x (cause.NoReplica r s) h
cause_is w k x why h = absurd h

pub refused_so : (what : WhatOf kinds) → is_refused what ≡ true → (why : Refusal) × (what ≡ told.Refused why)
refused_so (told.Refused why) h = (why, refl)
refused_so what h = absurd cc

pub refuse_sound : (w : W) (e : E) → refuse_ok w (happens kinds w e) e ≡ true → CausesRefuse kinds w e
refuse_sound w e h k x why is run because =
    let v = happens kinds w e in
    let t = subst (λ (d : E). refuse_ok w v d ≡ true) is h in
    let b = then_so (runs kinds w (client_id k)) (bool_eq (has_cause w k x) (says w v k is_refused)) t run in
    let s = says_it w e k is_refused (bools_same (has_cause w k x) (says w v k is_refused) b ∙ cause_is w k x why because) in
    record { told = s.told; says = s.reply; client = s.client; holds = refused_so s.told.mark.what s.passes }

-- Tests of one cause.

words_same : (a b : Word) → word_code a ≡ word_code b → a ≡ b
words_same word.Host word.Host e = refl
words_same word.Begin word.Begin e = refl
words_same word.Put word.Put e = refl
words_same word.Ask word.Ask e = refl
words_same word.End word.End e = refl
words_same word.Drop word.Drop e = refl
words_same word.Fate word.Fate e = refl
words_same word.Decide word.Decide e = refl
words_same word.Checkpoint word.Checkpoint e = refl
words_same word.Forget word.Forget e = refl
words_same word.Trim word.Trim e = refl
words_same word.Reconf word.Reconf e = refl
words_same word.Copy word.Copy e = refl
words_same word.AskAt word.AskAt e = refl
words_same word.Rescue word.Rescue e = refl
words_same a b e = absurd cc

busy_of : (x : Word) (o : Option (Work kinds)) → busy_with x o ≡ true → (v : Work kinds) × (o ≡ Some v) × (word_of v.command ≡ x)
busy_of x None h = absurd cc
busy_of x (Some v) h = (v, refl, words_same (word_of v.command) x (same_number (word_code (word_of v.command)) (word_code x) h))

oid_is : (o : Oid) (p : Option Oid) → is_oid o p ≡ true → p ≡ Some o
oid_is o None h = absurd cc
oid_is o (Some p) h = ap (λ (q : Oid). Some q) (sym (same_oid o p h))

wrong_by : (b : Bool) (o p : Oid) → is_oid o (if b then None else Some p) ≡ true → (p ≡ o) × (b ≡ false)
wrong_by true o p h = absurd cc
wrong_by false o p h = (sym (same_oid o p h), refl)

wrong_of : (x : CommandOf kinds) (o : Oid) → is_oid o (wrong x) ≡ true → IsWrong kinds x o
wrong_of (cmd.Put p op) o h = let b = wrong_by (kinds.allows p op) o p h in (b.0, ap (λ (q : Oid). kinds.allows q op) (sym b.0) ∙ b.1)
wrong_of (cmd.Ask p q) o h = let b = wrong_by (kinds.allows_ask p q) o p h in (b.0, ap (λ (r : Oid). kinds.allows_ask r q) (sym b.0) ∙ b.1)
wrong_of (cmd.AskAt at p q) o h = let b = wrong_by (kinds.allows_ask p q) o p h in (b.0, ap (λ (r : Oid). kinds.allows_ask r q) (sym b.0) ∙ b.1)
wrong_of x o h = absurd cc

names_of : (x : CommandOf kinds) (o : Oid) → is_oid o (named x) ≡ true → Names kinds x o
names_of (cmd.Host p) o h = sym (same_oid o p h)
names_of (cmd.Put p op) o h = sym (same_oid o p h)
names_of x o h = absurd cc

asks_of : (x : CommandOf kinds) (o : Oid) → is_oid o (asked_of x) ≡ true → AsksOf kinds x o
asks_of (cmd.Ask p q) o h = sym (same_oid o p h)
asks_of (cmd.Checkpoint p) o h = sym (same_oid o p h)
asks_of (cmd.Forget p n) o h = sym (same_oid o p h)
asks_of (cmd.AskAt at p q) o h = sym (same_oid o p h)
asks_of x o h = absurd cc

two_same : (r s t u : ℕ) → ((r == t) && (s == u)) ≡ true → (r ≡ t) × (s ≡ u)
two_same r s t u h = let b = and_both (r == t) (s == u) h in (same_number r t b.0, same_number s u b.1)

causes_same : (a b : Refusal) → same_cause a b ≡ true → a ≡ b
causes_same (cause.NotClosed r) (cause.NotClosed s) h = ap (λ n. cause.NotClosed n) (same_number r s h)
causes_same (cause.NoStripe r s) (cause.NoStripe t u) h = let b = two_same r s t u h in let x = b.0 in let y = b.1 in λ i. cause.NoStripe (x i) (y i)
causes_same (cause.InChain u) (cause.InChain v) h = ap (λ n. cause.InChain n) (same_number u v h)
causes_same (cause.Returned u) (cause.Returned v) h = ap (λ n. cause.Returned n) (same_number u v h)
causes_same (cause.NoReplica r s) (cause.NoReplica t u) h = let b = two_same r s t u h in let x = b.0 in let y = b.1 in λ i. cause.NoReplica (x i) (y i)
causes_same a b h = absurd cc

cause_of : (why : Refusal) (o : Option Refusal) → is_cause why o ≡ true → o ≡ Some why
cause_of why None h = absurd cc
cause_of why (Some other) h = ap (λ (x : Refusal). Some x) (causes_same other why h)

pub at_once_of : (w : W) (k : ℕ) (x : CommandOf kinds) (why : Refusal) → at_once w k x why ≡ true → CauseAtOnce kinds w k x why
at_once_of w k x (cause.Busy word) h = busy_of word (client kinds w k).work h
at_once_of w k x cause.NoTx h = let b = and_both (is_of_tx kinds x) (not (is_some (client kinds w k).tx)) h in (b.0, is_none (client kinds w k).tx b.1)
at_once_of w k x cause.TxOpen h = let b = and_both (not (is_of_tx kinds x)) (is_some (client kinds w k).tx) h in (not_true (is_of_tx kinds x) b.0, b.1)
at_once_of w k x (cause.WrongKind o) h = wrong_of x o h
at_once_of w k x (cause.NotRegistered o) h = let b = and_both (is_oid o (named x)) (unregistered w k o) h in (names_of x o b.0, not_true (kinds.registered (state_at kinds w.cluster.objects (history kinds w) (client kinds w k).played directory) o) b.1)
at_once_of w k x (cause.NotHosted o) h = let b = and_both (is_oid o (asked_of x)) (not (hosts_oid kinds (client kinds w k) o)) h in (asks_of x o b.0, not_true (hosts_oid kinds (client kinds w k) o) b.1)
at_once_of w k x (cause.TooMany what) h = lt_of (most what) (would_be kinds (client kinds w k) x what) h
at_once_of w k x (cause.TooLarge n) h = let b = and_both (nat_lt 4096 n) (n == size_with w k x) h in (lt_of 4096 n b.0, same_number n (size_with w k x) b.1)
at_once_of w k x (cause.NotClosed r) h = cause_of (cause.NotClosed r) (layout_cause kinds (client kinds w k).stand x) h
at_once_of w k x (cause.NoStripe r s) h = cause_of (cause.NoStripe r s) (layout_cause kinds (client kinds w k).stand x) h
at_once_of w k x (cause.InChain u) h = cause_of (cause.InChain u) (layout_cause kinds (client kinds w k).stand x) h
at_once_of w k x (cause.Returned u) h = cause_of (cause.Returned u) (layout_cause kinds (client kinds w k).stand x) h
at_once_of w k x (cause.NoReplica r s) h = cause_of (cause.NoReplica r s) (layout_cause kinds (client kinds w k).stand x) h
at_once_of w k x why h = absurd cc

-- Trims that walks met.

answered_is : (v : W) (t : Told kinds) (asks : Msg → Bool) (u : ℕ) (says : Msg → Bool) (P : Msg → Type 0) (x : Msg) → ((y : Msg) → asks y ≡ true → P y) → ((y : Msg) → says y ≡ true → y ≡ x)
    → answered v t asks u says ≡ true → Answered kinds v t P u x
answered_is v t asks u says P x is_ask is_answer h =
    let a = answered_found v t asks u says h in
    record {
      rid = a.rid;
      now = a.now;
      request = a.request;
      asked = is_ask a.request a.asked;
      was_asked = contained_has v.packets (record { from = client_id t.mark.client; to = unit_id u; rid = a.rid; msg = a.request }) a.was_asked;
      was_answered = contained_has v.packets (record { from = unit_id u; to = client_id t.mark.client; rid = a.rid; msg = x })
          (subst (λ (y : Msg). Has v.packets (record { from = unit_id u; to = client_id t.mark.client; rid = a.rid; msg = y })) (is_answer a.answer a.said) a.was_answered);
    }

met_of : (v : W) (t : Told kinds) (o : Oid) → walk_met_trim v t o ≡ true → WalkMetTrim kinds v t o
met_of v t o h =
    let f = heard_found v t.mark.client t.noted.next (λ x. list_any (path_is_gone v t o) (tail_links x)) h in
    let l = found (path_is_gone v t o) (tail_links f.packet.msg) f.passes in
    let i = tail_by (tail_links f.packet.msg) f.packet.msg refl l.it l.has in
    let b = and_both (oid_eq l.it.oid o) (list_any (asks_gone v t) (path (log kinds v) o l.it.backs)) l.passes in
    let q = found (asks_gone v t) (path (log kinds v) o l.it.backs) b.1 in
    let u = found (λ (n : ℕ). answered v t (asks_for q.it) n is_any_gone) (numbers v.cluster.units 0) q.passes in
    let a = answered_found v t (asks_for q.it) u.it is_any_gone u.passes in
    let g = gone_is a.answer a.said in
    record {
      tail = i.0;
      links = tail_links f.packet.msg;
      synced = sent_now v t (λ x. list_any (path_is_gone v t o) (tail_links x)) (msg.Tail i.0 (tail_links f.packet.msg)) f i.1;
      link = l.it;
      linked = contained_has (tail_links f.packet.msg) l.it l.has;
      stream = same_oid l.it.oid o b.0;
      pos = q.it;
      walked = contained_has (path (log kinds v) o l.it.backs) q.it q.has;
      unit = u.it;
      rid = a.rid;
      now = a.now;
      request = a.request;
      asks = a.asked;
      asked = contained_has v.packets (record { from = client_id t.mark.client; to = unit_id u.it; rid = a.rid; msg = a.request }) a.was_asked;
      below = g.below;
      gone = contained_has v.packets (record { from = unit_id u.it; to = client_id t.mark.client; rid = a.rid; msg = msg.Gone g.below })
          (subst (λ (y : Msg). Has v.packets (record { from = unit_id u.it; to = client_id t.mark.client; rid = a.rid; msg = y })) g.is a.was_answered);
    }

stuck_at : (v : W) (t : Told kinds) (x : Option (CommandOf kinds)) (what : WhatOf kinds) (p q : ℕ) (o : Oid) → stuck_of v t x what ≡ true → x ≡ Some (cmd.Rescue p) → what ≡ told.Refused (cause.Undecided q o) → WalkMetTrim kinds v t o
stuck_at v t x what p q o h is says =
    met_of v t o (subst (λ (y : WhatOf kinds). stuck_of v t (Some (cmd.Rescue p)) y ≡ true) says (subst (λ (y : Option (CommandOf kinds)). stuck_of v t y what ≡ true) is h))

pub stuck_sound : (w : W) (e : E) → stuck_ok w (happens kinds w e) ≡ true → StuckTrue kinds w e
stuck_sound w e h added t p q o is here command says =
    let v = happens kinds w e in
    let r : Replies kinds w e t = record { replies = added; are = is; here = here } in
    stuck_at v t (command_in kinds (client kinds w t.mark.client).work) t.mark.what p q o
    (all_pass (λ (u : Told kinds). stuck_of v u (command_in kinds (client kinds w u.mark.client).work) u.mark.what) (replies w v) h t (reply_has w e t r)) command says

-- Causes at work.

reads_of_it : (v : W) (p : ℕ) (o : Oid) → reads_at v p o ≡ true → HasReadOf kinds v p o
reads_of_it v p o h =
    let a = entry_found (es_of v) p (λ e. is_commit e && reads_oid o e) h in
    let b = and_both (is_commit a.entry) (reads_oid o a.entry) a.passes in
    let r = found (λ (x : ReadMark). oid_eq x.oid o) (reads_of a.entry) b.1 in
    record { entry = a.entry; here = in_log v p a.entry a.here; commit = b.0; read = r.it; reads = contained_has (reads_of a.entry) r.it r.has; of = same_oid r.it.oid o r.passes }

out_of_reach : (v : W) (t : Told kinds) (o : Oid) → (not (hosts_oid kinds (client kinds v t.mark.client) o) || walk_met_trim v t o) ≡ true → IsOutOfReach kinds v t o
out_of_reach v t o h =
    elim (either_so (not (hosts_oid kinds (client kinds v t.mark.client) o)) (walk_met_trim v t o) h) [
      | inl a ↦ inl (not_true (hosts_oid kinds (client kinds v t.mark.client) o) a)
      | inr b ↦ inr (met_of v t o b)
    ]

cant_know_of : (v : W) (t : Told kinds) (p : ℕ) (o : Oid) (x : CommandOf kinds) → cant_know v t p o x ≡ true → CantKnow kinds x v t p o
cant_know_of v t p o (cmd.AskAt at q y) h =
    let b = and_both (nat_lt p at && reads_at v p o) (not (hosts_oid kinds (client kinds v t.mark.client) o) || walk_met_trim v t o) h in
    let a = and_both (nat_lt p at) (reads_at v p o) b.0 in
    (lt_of p at a.0, reads_of_it v p o a.1, out_of_reach v t o b.1)
cant_know_of v t p o (cmd.Rescue at) h =
    let b = and_both (nat_le p at && reads_at v p o) (walk_met_trim v t o) h in
    let a = and_both (nat_le p at) (reads_at v p o) b.0 in
    (le_of p at a.0, reads_of_it v p o a.1, met_of v t o b.1)
cant_know_of v t p o x h = unknown_of v t p o h

forget_of : (f : Oid → ℕ → Bool) (P : Oid → ℕ → Type 0) (x : CommandOf kinds) → ((o : Oid) (n : ℕ) → f o n ≡ true → P o n) → forget_is f x ≡ true → IsForget kinds x P
forget_of f P (cmd.Forget o n) is h = is o n h
forget_of f P x is h = absurd cc

no_base_of : (v : W) (t : Told kinds) (o : Oid) (n : ℕ) → no_base v t o n ≡ true → HasNoBase kinds v t o n
no_base_of v t o n h =
    let reaches = λ (tail : ℕ) (x : ℕ × Entry). nat_lt x.0 tail && base_to n (base_at kinds o x.1) in
    let ok = λ (tail : ℕ). not (list_any (reaches tail) (es_of v)) in
    let f = heard_found v t.mark.client t.noted.next (is_tail ok) h in
    let i = tail_is ok f.packet.msg f.passes in
    record {
      tail = i.tail;
      links = i.links;
      synced = sent_now v t (is_tail ok) (msg.Tail i.tail i.links) f i.is;
      none = λ p e b here below gives le.
          clash (list_any (reaches i.tail) (es_of v))
          (passes_somewhere (reaches i.tail) (es_of v) (p, e) (of_log v p e here) (both_and (nat_lt p i.tail) (base_to n (base_at kinds o e)) (of_lt p i.tail below) (ap (base_to n) gives ∙ of_le n b.upto le)))
          (not_true (list_any (reaches i.tail) (es_of v)) i.passes);
    }

least_of : (o : Oid) (p : ℕ) (x : Walked kinds) → least_by o p (Some x) ≡ true → (q : ℕ) (d : Entry) → Contains (entries_had kinds x) (q, d) → q < p → lists d o ≡ true → needs_decision d ≡ true
    → is_some (decision_in (entries_had kinds x) q) ≡ true
least_of o p x h q d here less stands needs =
    then_so (nat_lt q p && lists d o && needs_decision d) (is_some (decision_in (entries_had kinds x) q))
    (all_pass (λ (y : ℕ × Entry). implies (nat_lt y.0 p && lists y.1 o && needs_decision y.1) (is_some (decision_in (entries_had kinds x) y.0))) (entries_had kinds x) h (q, d) (has_contained {X = ℕ × Entry} (entries_had kinds x) (q, d) here))
    (both_and (nat_lt q p && lists d o) (needs_decision d) (both_and (nat_lt q p) (lists d o) (of_lt q p less) stands) needs)

open_of : (w : W) (e : E) (t : Told kinds) (p : ℕ) (o : Oid) (n : ℕ)
    → (nat_lt p n && lacks w e t p && least_by o p (walked_in kinds w e t.mark.client) && entry_here (es_of (happens kinds w e)) p (λ d. lists d o && needs_decision d)) ≡ true → IsOpen kinds w e t o n p
open_of w e t p o n h =
    let v = happens kinds w e in
    let b = and_both (nat_lt p n && lacks w e t p && least_by o p (walked_in kinds w e t.mark.client)) (entry_here (es_of v) p (λ d. lists d o && needs_decision d)) h in
    let c = and_both (nat_lt p n && lacks w e t p) (least_by o p (walked_in kinds w e t.mark.client)) b.0 in
    let d = and_both (nat_lt p n) (lacks w e t p) c.0 in
    let a = entry_found (es_of v) p (λ y. lists y o && needs_decision y) b.1 in
    let s = and_both (lists a.entry o) (needs_decision a.entry) a.passes in
    let l = lacks_of w e t p d.1 in
    record {
      entry = a.entry;
      here = in_log v p a.entry a.here;
      in_stream = s.0;
      needs = s.1;
      below = lt_of p n d.0;
      lacks = l;
      least = least_of o p l.had (subst (λ (x : Option (Walked kinds)). least_by o p x ≡ true) l.walked c.1);
    }

full_at : (n : ℕ) (x : Msg) → is_full n x ≡ true → x ≡ msg.Full n
full_at n (msg.Full l) h = ap (λ (k : ℕ). msg.Full k) (sym (same_number n l h))
full_at n x h = absurd cc

gone_at : (b : ℕ) (x : Msg) → is_gone b x ≡ true → x ≡ msg.Gone b
gone_at b (msg.Gone c) h = ap (λ (k : ℕ). msg.Gone k) (sym (same_number b c h))
gone_at b x h = absurd cc

was_gone : (v : W) (t : Told kinds) (b : ℕ) → heard_now v t (is_gone b) ≡ true → SentNow kinds v t (msg.Gone b)
was_gone v t b h = let f = heard_found v t.mark.client t.noted.next (is_gone b) h in sent_now v t (is_gone b) (msg.Gone b) f (gone_at b f.packet.msg f.passes)

named_of : (v : W) (t : Told kinds) (p at b : ℕ) → ((p == at) && nat_lt at b && heard_now v t (is_gone b)) ≡ true → (p ≡ at) × (at < b) × SentNow kinds v t (msg.Gone b)
named_of v t p at b h =
    let c = and_both ((p == at) && nat_lt at b) (heard_now v t (is_gone b)) h in
    let d = and_both (p == at) (nat_lt at b) c.0 in
    (same_number p at d.0, lt_of at b d.1, was_gone v t b c.1)

named_trim : (v : W) (t : Told kinds) (at b : ℕ) (x : CommandOf kinds) → named_trimmed v t at b x ≡ true → NamedTrimmed kinds x v t at b
named_trim v t at b (cmd.Fate p) h = named_of v t p at b h
named_trim v t at b (cmd.Decide p) h = named_of v t p at b h
named_trim v t at b (cmd.Rescue p) h = named_of v t p at b h
named_trim v t at b (cmd.AskAt p o q) h = let c = and_both (p == at) (heard_now v t (is_gone b)) h in (same_number p at c.0, was_gone v t b c.1)
named_trim v t at b x h = absurd cc

own_trim : (v : W) (t : Told kinds) (at b : ℕ) → own_trimmed v t at b ≡ true → OwnTrimmed kinds v t at b
own_trim v t at b h =
    let c = and_both (nat_lt at b) (list_any (λ u. answered v t (is_at at) u (is_gone b)) (numbers v.cluster.units 0)) h in
    let u = found (λ (n : ℕ). answered v t (is_at at) n (is_gone b)) (numbers v.cluster.units 0) c.1 in
    (u.it, lt_of at b c.0, answered_is v t (is_at at) u.it (is_gone b) (λ x. is_at at x ≡ true) (msg.Gone b) (λ y a. a) (gone_at b) u.passes)

look_of : (x : Msg) → is_has x ≡ true → IsLook kinds x
look_of (msg.Has e a b s) h = tt
look_of x h = absurd cc

missing_at : (p : ℕ) (x : Msg) → is_missing p x ≡ true → x ≡ msg.Missing p
missing_at p (msg.Missing q) h = ap (λ (k : ℕ). msg.Missing k) (sym (same_number p q h))
missing_at p x h = absurd cc

ahead_of : (v : W) (t : Told kinds) (tail : ℕ) (x : CommandOf kinds) → ahead v t tail x ≡ true → IsAhead kinds x v t tail
ahead_of v t tail (cmd.AskAt p o q) h =
    let b = and_both (nat_lt tail p) (heard_now v t (is_tail (λ y. y == tail))) h in
    let f = heard_found v t.mark.client t.noted.next (is_tail (λ y. y == tail)) b.1 in
    let i = tail_is (λ y. y == tail) f.packet.msg f.passes in
    (lt_of tail p b.0, (i.links, sent_now v t (is_tail (λ y. y == tail)) (msg.Tail tail i.links) f (i.is ∙ ap (λ (n : ℕ). msg.Tail n i.links) (same_number i.tail tail i.passes))))
ahead_of v t tail x h = absurd cc

large_by : (v : W) (t : Told kinds) (n : ℕ) (o : Oid) (u : Option (View kinds)) → (client kinds v t.mark.client).view ≡ u → size_of v t.mark.client o u ≡ n → 4096 < n → IsTooLarge kinds (cmd.Checkpoint o) v t n
large_by v t n o None is size less = absurd (omega (arith, size, less))
large_by v t n o (Some u) is size less = (less, (u, is, sym size))

large_of : (v : W) (t : Told kinds) (n : ℕ) (x : CommandOf kinds) → ((checkpoint_size v t.mark.client x == n) && nat_lt 4096 n) ≡ true → IsTooLarge kinds x v t n
large_of v t n x h =
    let b = and_both (checkpoint_size v t.mark.client x == n) (nat_lt 4096 n) h in
    by x (same_number (checkpoint_size v t.mark.client x) n b.0) (lt_of 4096 n b.1)
  where
    by : (y : CommandOf kinds) → checkpoint_size v t.mark.client y ≡ n → 4096 < n → IsTooLarge kinds y v t n
    by (cmd.Checkpoint o) size less = large_by v t n o (client kinds v t.mark.client).view refl size less
    by y size less = absurd (omega (arith, size, less))

wide_of : (o : Option (Work kinds)) → is_wide o ≡ true → (v : Work kinds) × (o ≡ Some v) × (128 ≤ length v.oids)
wide_of None h = absurd cc
wide_of (Some v) h = (v, refl, le_of 128 (length v.oids) h)

rescue_of : (x : CommandOf kinds) → is_rescue x ≡ true → IsRescue kinds x
rescue_of (cmd.Rescue p) h = tt
rescue_of x h = absurd cc

later_of : (w : W) (e : E) (t : Told kinds) (x : CommandOf kinds) (why : Refusal) → later_cause w e (happens kinds w e) t x why ≡ true → CauseLater kinds w e t x why
later_of w e t x (cause.Undecided p o) h =
    let b = and_both (cant_know (happens kinds w e) t p o x) (lacks w e t p) h in
    (cant_know_of (happens kinds w e) t p o x b.0, lacks_of w e t p b.1)
later_of w e t x (cause.NoCheckpoint o) h =
    let v = happens kinds w e in
    forget_of (λ p n. oid_eq p o && no_base v t o n) (λ p n. (p ≡ o) × HasNoBase kinds v t o n) x (λ p n y. let b = and_both (oid_eq p o) (no_base v t o n) y in (same_oid p o b.0, no_base_of v t o n b.1)) h
later_of w e t x (cause.OpenDecision p) h =
    forget_of (λ o n. nat_lt p n && lacks w e t p && least_by o p (walked_in kinds w e t.mark.client) && entry_here (es_of (happens kinds w e)) p (λ d. lists d o && needs_decision d))
    (λ o n. IsOpen kinds w e t o n p) x (λ o n y. open_of w e t p o n y) h
later_of w e t x (cause.LogFull n) h =
    let f = heard_found (happens kinds w e) t.mark.client t.noted.next (is_full n) h in
    sent_now (happens kinds w e) t (is_full n) (msg.Full n) f (full_at n f.packet.msg f.passes)
later_of w e t x (cause.Forgotten at b) h =
    elim (either_so (named_trimmed (happens kinds w e) t at b x) (own_trimmed (happens kinds w e) t at b) h) [
      | inl a ↦ inl (named_trim (happens kinds w e) t at b x a)
      | inr c ↦ inr (own_trim (happens kinds w e) t at b c)
    ]
later_of w e t x (cause.Ahead tail) h = ahead_of (happens kinds w e) t tail x h
later_of w e t x (cause.NotWhole u p) h = answered_is (happens kinds w e) t is_has u (is_missing p) (IsLook kinds) (msg.Missing p) look_of (missing_at p) h
later_of w e t x (cause.Overtaken n) h = overtaken_by (happens kinds w e) t n h
later_of w e t x (cause.TooLarge n) h = large_of (happens kinds w e) t n x h
later_of w e t x (cause.TooMany many.Hosted) h =
    let b = and_both (is_rescue x) (is_wide (client kinds w t.mark.client).work) h in
    (rescue_of x b.0, wide_of (client kinds w t.mark.client).work b.1)
later_of w e t x why h = cause_of why (layout_cause kinds (client kinds (happens kinds w e) t.mark.client).stand x) h

-- Each refusal has its cause.

cause_found : (w : W) (e : E) (t : Told kinds) (why : Refusal) (x : Option (CommandOf kinds)) → command_at kinds w e t.mark.client ≡ x → cause_by w e (happens kinds w e) t x why ≡ true → HasCause kinds w e t why
cause_found w e t why None is h = absurd cc
cause_found w e t why (Some x) is h = record { command = x; answered = is; because = by (either_so (at_once w t.mark.client x why) (later_cause w e (happens kinds w e) t x why) h) }
  where
    by : (at_once w t.mark.client x why ≡ true) ⊎ (later_cause w e (happens kinds w e) t x why ≡ true) → CauseAtOnce kinds w t.mark.client x why ⊎ CauseLater kinds w e t x why
    by (inl a) = inl (at_once_of w t.mark.client x why a)
    by (inr b) = inr (later_of w e t x why b)

pub causes_sound : (w : W) (e : E) → causes_ok w e (happens kinds w e) ≡ true → RefusalsTrue kinds w e
causes_sound w e h t why r is =
    let v = happens kinds w e in
    let c = subst (λ (what : WhatOf kinds). caused w e v t what ≡ true) is (all_pass (λ (u : Told kinds). caused w e v u u.mark.what) (replies w v) h t (reply_has w e t r)) in
    cause_found w e t why (command_at kinds w e t.mark.client) refl c
