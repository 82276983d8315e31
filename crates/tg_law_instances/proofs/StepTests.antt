-- The claims on steps as tests that compute, and all of them over the steps and lines of a run.
use Rattle.std.specs.Prelude.{ℕ, zero, suc, ◌+◌, ◌*◌, ◌&&◌, ◌||◌, ◌==◌, not, nat_lt, nat_le, Bool, true, false, List, [], ◌∷◌, ◌++◌, filter, length, drop, Option, Some, None, is_some, if◌then◌else◌}
use Rattle.std.specs.List.{list_any, list_all}
use Rattle.tg_base.specs.Clusters.{Header}
use Rattle.tg_base.specs.declared.cell.Cell.{Cell}
use Rattle.tg_base.specs.declared.cell.Cell.TheVariants.{Junk, Data}
use Rattle.tg_base.specs.declared.fault.Many.{Many}
use Rattle.tg_base.specs.declared.fault.Many.TheVariants as many
use Rattle.tg_base.specs.declared.ids.NodeId.{NodeId}
use Rattle.tg_base.specs.declared.ids.Oid.{Oid}
use Rattle.tg_base.specs.declared.msg.Msg.{Msg}
use Rattle.tg_base.specs.declared.msg.Msg.TheVariants as msg
use Rattle.tg_base.specs.declared.packet.Packet.{Packet}
use Rattle.tg_entry.specs.declared.entry.Entry.{Entry}
use Rattle.tg_base.specs.declared.marks.ReadMark.{ReadMark}
use Rattle.tg_base.specs.declared.marks.StreamLink.{StreamLink}
use Rattle.tg_model.specs.declared.command.Command.TheVariants as cmd
use Rattle.tg_model.specs.declared.command.Event.TheVariants.{Command as Commands, Deliver, Tick}
use Rattle.tg_model.specs.declared.refusal.Refusal.{Refusal}
use Rattle.tg_model.specs.declared.refusal.Refusal.TheVariants as cause
use Rattle.tg_model.specs.declared.trace.What.TheVariants as told
use Rattle.tg_model.specs.Kinds.{CommandOf, WhatOf}
use Rattle.tg_model.specs.Stores.{state_at}
use Rattle.tg_model.specs.Words.{word_of}
use Rattle.tg_model.specs.declared.command.Word.{Word}
use Rattle.tg_model.specs.declared.command.Word.TheVariants as word
use Rattle.std.specs.Cmp.Lexicographic.{pointwise}
use Rattle.tg_protocol.specs.Words.{cell_eq, cell_at, has_num, directory, client_id, unit_id, seqr_id, numbers}
use Rattle.tg_kind.specs.Parts.{part_eq}
use Rattle.tg_base.specs.Orders.{oid_eq, node_eq}
use Rattle.tg_protocol.specs.Layouts.{units_of}
use Rattle.tg_entry.specs.Needs.{needs_decision, reads_of}
use Rattle.tg_protocol.specs.Entries.{is_commit, lists, entry_size}
use Rattle.tg_protocol.specs.Pages.{entry_of}
use Rattle.tg_protocol.specs.Views.{Base, View, base_of, decision_in, unknown_by}
use Rattle.tg_protocol.specs.Transactions.{Tx, record_size}
use Rattle.tg_protocol.specs.Checkpoints.{base_at, checkpoint}
use Rattle.tg_protocol.specs.Logs.{entries_of, members, path}
use Rattle.tg_protocol.specs.Clients.{Client, Work, upto, hosts_oid, refusal}
use Rattle.tg_protocol.specs.Stuck.{asks_for, command_in}
use Rattle.tg_protocol.specs.Playing.{from_to}
use Rattle.tg_protocol.specs.Walked.{Walked, walked_in, walked_from, positions_found, entries_had}
use Rattle.tg_protocol.specs.Causes.{most, is_of_tx, would_be, reads_with, writes_with, layout_cause, command_at, is_at}
use Rattle.tg_protocol.specs.Finishing.{deliveries, is_with_client, most_deliveries_in}
use Rattle.tg_protocol.specs.Worlds.{Told, Line, Happens, Update, Drain, Settle, start, next_event, unit, seqr, client, noted_of, runs, latest, log, history, happens, lowest, nodes, line, settle}
use Rattle.tg_law_examples.proofs.SevenKinds.{kinds}
use Rattle.tg_law_instances.proofs.Tests.{Claim, Stands, Falls, GivesUp, ReadsOn, SyncsExact, CausesRefuse, CausesTrue, NonesTrue, RefusalsKeep, StuckTrue, LogStays, Finishes, W, E, implies, is_any_gone, tail_links, layouts, overtakes, writes_eq, failed, nums_eq, read_pos, bool_eq, states_eq, oids_eq, heard, heard_now, is_gone, is_gone_above, is_full, is_tail, entry_here, answered, fails, world_fails}

-- The events of lines.

unfoldable pub drain_ev : ℕ → W → List E
drain_ev zero w = []
drain_ev (suc n) w = elim (lowest kinds w.waiting) as (λ _. List E) [ None ↦ [] | Some i ↦ Deliver i ∷ drain_ev n (happens kinds w (Deliver i)) ]

abbrev pub all_of : List E → W → W
all_of [] w = w
all_of (e ∷ es) w = all_of es (happens kinds w e)

unfoldable pub tick_ev : List NodeId → W → List E
tick_ev [] w = []
tick_ev (n ∷ ns) w = if runs kinds w n then Tick n ∷ tick_ev ns w else tick_ev ns w

unfoldable pub round_ev : ℕ → W → List E
round_ev zero w = []
round_ev (suc n) w = let ts = tick_ev (nodes kinds w) w in let v = all_of ts w in let ds = drain_ev 5000 v in
    if length v.packets == length w.packets then ts ++ ds else ts ++ ds ++ round_ev n (all_of ds v)

abbrev pub settle_ev : W → List E
settle_ev w = let ds = drain_ev 5000 w in ds ++ round_ev 8 (all_of ds w)

abbrev pub line_ev : W → Line kinds → List E
line_ev w (Happens e) = e ∷ []
line_ev w (Update k o op) = Commands k cmd.Begin ∷ Commands k (cmd.Put o op) ∷ Commands k cmd.End ∷ []
line_ev w Drain = drain_ev 5000 w
line_ev w Settle = settle_ev w

abbrev pub each_client : W → (ℕ → Bool) → Bool
each_client w f = list_all f (numbers (length w.clients) 0)

-- Replies of a step.

abbrev pub replies : W → W → List (Told kinds)
replies w v = drop (length w.told) v.told

abbrev pub is_refused : WhatOf kinds → Bool
is_refused (told.Refused why) = true
is_refused what = false

abbrev pub is_hosted : WhatOf kinds → Bool
is_hosted (told.Hosted o) = true
is_hosted what = false

abbrev pub says : W → W → ℕ → (WhatOf kinds → Bool) → Bool
says w v k f = list_any (λ (t : Told kinds). (t.mark.client == k) && f t.mark.what) (replies w v)

abbrev pub met_trim_above : W → ℕ → Bool
met_trim_above v k = heard v k (noted_of kinds v k).next (is_gone_above (noted_of kinds v k).upto)

-- Playing on.

abbrev pub asked_at : WhatOf kinds → Option ℕ
asked_at (told.Asked o q t a) = Some t
asked_at what = None

abbrev pub some_is : Option ℕ → ℕ → Bool
some_is None n = true
some_is (Some t) n = t == n

abbrev pub stands_ok : W → W → Bool
stands_ok w v = list_all (λ (t : Told kinds). some_is (asked_at t.mark.what) (upto kinds (client kinds v t.mark.client))) (replies w v)

abbrev pub falls_ok : W → W → ℕ → Bool
falls_ok w v k = implies (nat_lt (upto kinds (client kinds v k)) (upto kinds (client kinds w k))) (says w v k is_hosted || met_trim_above v k)

abbrev pub own_entry : ℕ → Option Entry → Bool
own_entry k None = false
own_entry k (Some e) = is_commit e && (e.head.client == k)

abbrev pub own_page : ℕ → Cell → Bool
own_page k Junk = true
own_page k (Data d) = own_entry k (entry_of d)

abbrev pub is_idle : Option (Work kinds) → Bool
is_idle None = true
is_idle (Some x) = false

abbrev pub gives_up_ok : W → ℕ → Bool
gives_up_ok v k = implies (is_idle (client kinds v k).work) (list_all (λ (x : ℕ × Cell). implies (nat_lt x.0 (upto kinds (client kinds v k))) (own_page k x.1)) (client kinds v k).cells)

abbrev pub for_view : Option (CommandOf kinds) → Bool
for_view (Some (cmd.Ask o q)) = true
for_view (Some cmd.End) = true
for_view (Some (cmd.Checkpoint o)) = true
for_view (Some cmd.Trim) = true
for_view x = false

abbrev pub read_ok : ℕ → Msg → Bool
read_ok n (msg.Read e p) = nat_le n p
read_ok n x = true

abbrev pub reads_on_ok : W → W → ℕ → Bool
reads_on_ok w v k = implies (for_view (command_in kinds (client kinds v k).work)) (met_trim_above v k
    || list_all (λ (p : Packet). implies (node_eq p.from (client_id k)) (read_ok (noted_of kinds v k).upto p.msg)) (drop (length w.packets) v.packets))

-- Exact syncs.

abbrev pub stream_exact : W → Walked kinds → Oid → Bool
stream_exact v x o = nums_eq (from_to kinds (walked_from kinds x o) x.work.tail (positions_found kinds x o)) (members (log kinds v) o (walked_from kinds x o) x.work.tail)

abbrev pub exact_by : W → Option (Walked kinds) → Bool
exact_by v None = true
exact_by v (Some x) = list_all (stream_exact v x) x.work.oids

abbrev pub exact_ok : W → E → W → ℕ → Bool
exact_ok w e v k = exact_by v (walked_in kinds w e k)

-- Causes at once.

abbrev pub wrong : CommandOf kinds → Option Oid
wrong (cmd.Put o op) = if kinds.allows o op then None else Some o
wrong (cmd.Ask o q) = if kinds.allows_ask o q then None else Some o
wrong (cmd.AskAt p o q) = if kinds.allows_ask o q then None else Some o
wrong x = None

abbrev pub named : CommandOf kinds → Option Oid
named (cmd.Host o) = Some o
named (cmd.Put o op) = Some o
named x = None

abbrev pub asked_of : CommandOf kinds → Option Oid
asked_of (cmd.Ask o q) = Some o
asked_of (cmd.Checkpoint o) = Some o
asked_of (cmd.Forget o n) = Some o
asked_of (cmd.AskAt p o q) = Some o
asked_of x = None

abbrev pub is_oid : Oid → Option Oid → Bool
is_oid o None = false
is_oid o (Some p) = oid_eq o p

abbrev pub unregistered : W → ℕ → Oid → Bool
unregistered w k o = not (kinds.registered (state_at kinds w.cluster.objects (history kinds w) (client kinds w k).played directory) o)

abbrev pub some_oid : (Oid → Bool) → Option Oid → Bool
some_oid f None = false
some_oid f (Some o) = f o

abbrev pub too_many : W → ℕ → CommandOf kinds → Many → Bool
too_many w k x a = nat_lt (most a) (would_be kinds (client kinds w k) x a)

abbrev pub size_with : W → ℕ → CommandOf kinds → ℕ
size_with w k x = record_size (reads_with kinds (client kinds w k).tx x) (writes_with kinds (client kinds w k).tx x)

-- for each cause that may stand at once, whether some such one does
abbrev pub cause_tests : W → ℕ → CommandOf kinds → List Bool
cause_tests w k x =
    not (is_idle (client kinds w k).work) ∷ (is_of_tx kinds x && not (is_some (client kinds w k).tx)) ∷ (not (is_of_tx kinds x) && is_some (client kinds w k).tx)
    ∷ is_some (wrong x) ∷ some_oid (unregistered w k) (named x) ∷ some_oid (λ o. not (hosts_oid kinds (client kinds w k) o)) (asked_of x)
    ∷ too_many w k x many.Streams ∷ too_many w k x many.Reads ∷ too_many w k x many.Writes ∷ too_many w k x many.Hosted ∷ too_many w k x many.Ranges ∷ too_many w k x many.Units
    ∷ nat_lt 4096 (size_with w k x) ∷ is_some (layout_cause kinds (client kinds w k).stand x) ∷ []

abbrev pub has_cause : W → ℕ → CommandOf kinds → Bool
has_cause w k x = list_any (λ b. b) (cause_tests w k x)

-- the words of commands, and the causes of layouts

abbrev pub word_code : Word → ℕ
word_code word.Host = 0
word_code word.Begin = 1
word_code word.Put = 2
word_code word.Ask = 3
word_code word.End = 4
word_code word.Drop = 5
word_code word.Fate = 6
word_code word.Decide = 7
word_code word.Checkpoint = 8
word_code word.Forget = 9
word_code word.Trim = 10
word_code word.Reconf = 11
word_code word.Copy = 12
word_code word.AskAt = 13
word_code word.Rescue = 14

abbrev pub busy_with : Word → Option (Work kinds) → Bool
busy_with x None = false
busy_with x (Some v) = word_code (word_of v.command) == word_code x

abbrev pub same_cause : Refusal → Refusal → Bool
same_cause (cause.NotClosed r) (cause.NotClosed s) = r == s
same_cause (cause.NoStripe r s) (cause.NoStripe t u) = (r == t) && (s == u)
same_cause (cause.InChain u) (cause.InChain v) = u == v
same_cause (cause.Returned u) (cause.Returned v) = u == v
same_cause (cause.NoReplica r s) (cause.NoReplica t u) = (r == t) && (s == u)
same_cause why other = false

abbrev pub is_cause : Refusal → Option Refusal → Bool
is_cause why None = false
is_cause why (Some other) = same_cause other why

-- this one stands at once
abbrev pub at_once : W → ℕ → CommandOf kinds → Refusal → Bool
at_once w k x (cause.Busy word) = busy_with word (client kinds w k).work
at_once w k x cause.NoTx = is_of_tx kinds x && not (is_some (client kinds w k).tx)
at_once w k x cause.TxOpen = not (is_of_tx kinds x) && is_some (client kinds w k).tx
at_once w k x (cause.WrongKind o) = is_oid o (wrong x)
at_once w k x (cause.NotRegistered o) = is_oid o (named x) && unregistered w k o
at_once w k x (cause.NotHosted o) = is_oid o (asked_of x) && not (hosts_oid kinds (client kinds w k) o)
at_once w k x (cause.TooMany what) = too_many w k x what
at_once w k x (cause.TooLarge n) = nat_lt 4096 n && (n == size_with w k x)
at_once w k x (cause.NotClosed r) = is_cause (cause.NotClosed r) (layout_cause kinds (client kinds w k).stand x)
at_once w k x (cause.NoStripe r s) = is_cause (cause.NoStripe r s) (layout_cause kinds (client kinds w k).stand x)
at_once w k x (cause.InChain u) = is_cause (cause.InChain u) (layout_cause kinds (client kinds w k).stand x)
at_once w k x (cause.Returned u) = is_cause (cause.Returned u) (layout_cause kinds (client kinds w k).stand x)
at_once w k x (cause.NoReplica r s) = is_cause (cause.NoReplica r s) (layout_cause kinds (client kinds w k).stand x)
at_once w k x why = false

abbrev pub refuse_ok : W → W → E → Bool
refuse_ok w v (Commands k x) = implies (runs kinds w (client_id k)) (bool_eq (has_cause w k x) (says w v k is_refused))
refuse_ok w v e = true

-- Causes at work.

abbrev pub tail_above : W → Told kinds → ℕ → Bool
tail_above v t p = heard_now v t (is_tail (λ x. nat_lt p x))

abbrev pub reads_oid : Oid → Entry → Bool
reads_oid o e = list_any (λ (r : ReadMark). oid_eq r.oid o) (reads_of e)

abbrev pub is_for : Client kinds → ℕ → Entry → Bool
is_for c p e = has_num p c.own || list_any (λ o. lists e o) c.hosted

abbrev pub unknown_in_view : Oid → ℕ → Entry → Option (View kinds) → Bool
unknown_in_view o p e None = false
unknown_in_view o p e (Some u) = list_any (λ (r : ReadMark). oid_eq r.oid o && unknown_by kinds p (base_of kinds u o) r) (reads_of e)

abbrev pub is_unknown : W → Told kinds → ℕ → Oid → Bool
is_unknown v t p o = tail_above v t p && entry_here (entries_of (log kinds v)) p (λ e. is_commit e && is_for (client kinds v t.mark.client) p e && unknown_in_view o p e (client kinds v t.mark.client).view)

abbrev pub lacks_by : ℕ → Option (Walked kinds) → Bool
lacks_by p None = false
lacks_by p (Some x) = not (is_some (decision_in (entries_had kinds x) p))

abbrev pub lacks : W → E → Told kinds → ℕ → Bool
lacks w e t p = lacks_by p (walked_in kinds w e t.mark.client)

abbrev pub least_by : Oid → ℕ → Option (Walked kinds) → Bool
least_by o p None = false
least_by o p (Some x) = list_all (λ (y : ℕ × Entry). implies (nat_lt y.0 p && lists y.1 o && needs_decision y.1) (is_some (decision_in (entries_had kinds x) y.0))) (entries_had kinds x)

abbrev pub reads_at : W → ℕ → Oid → Bool
reads_at v p o = entry_here (entries_of (log kinds v)) p (λ e. is_commit e && reads_oid o e)

-- the walk of an object's stream met a trim: a unit answered so to a request for a position of its path

abbrev pub asks_gone : W → Told kinds → ℕ → Bool
asks_gone v t q = list_any (λ u. answered v t (asks_for q) u is_any_gone) (numbers v.cluster.units 0)

abbrev pub path_is_gone : W → Told kinds → Oid → StreamLink → Bool
path_is_gone v t o l = oid_eq l.oid o && list_any (asks_gone v t) (path (log kinds v) o l.backs)

abbrev pub walk_met_trim : W → Told kinds → Oid → Bool
walk_met_trim v t o = heard_now v t (λ x. list_any (path_is_gone v t o) (tail_links x))

abbrev pub cant_know : W → Told kinds → ℕ → Oid → CommandOf kinds → Bool
cant_know v t p o (cmd.AskAt at q x) = nat_lt p at && reads_at v p o && (not (hosts_oid kinds (client kinds v t.mark.client) o) || walk_met_trim v t o)
cant_know v t p o (cmd.Rescue at) = nat_le p at && reads_at v p o && walk_met_trim v t o
cant_know v t p o x = is_unknown v t p o

abbrev pub base_to : ℕ → Option (Base kinds) → Bool
base_to n None = false
base_to n (Some b) = nat_le n b.upto

abbrev pub no_base : W → Told kinds → Oid → ℕ → Bool
no_base v t o n = heard_now v t (is_tail (λ tail. not (list_any (λ (x : ℕ × Entry). nat_lt x.0 tail && base_to n (base_at kinds o x.1)) (entries_of (log kinds v)))))

abbrev pub named_trimmed : W → Told kinds → ℕ → ℕ → CommandOf kinds → Bool
named_trimmed v t at b (cmd.Fate p) = (p == at) && nat_lt at b && heard_now v t (is_gone b)
named_trimmed v t at b (cmd.Decide p) = (p == at) && nat_lt at b && heard_now v t (is_gone b)
named_trimmed v t at b (cmd.Rescue p) = (p == at) && nat_lt at b && heard_now v t (is_gone b)
named_trimmed v t at b (cmd.AskAt p o q) = (p == at) && heard_now v t (is_gone b)
named_trimmed v t at b x = false

abbrev pub own_trimmed : W → Told kinds → ℕ → ℕ → Bool
own_trimmed v t at b = nat_lt at b && list_any (λ u. answered v t (is_at at) u (is_gone b)) (numbers v.cluster.units 0)

abbrev pub is_missing : ℕ → Msg → Bool
is_missing p (msg.Missing q) = p == q
is_missing p x = false

abbrev pub is_has : Msg → Bool
is_has (msg.Has e a b s) = true
is_has x = false

abbrev pub ahead : W → Told kinds → ℕ → CommandOf kinds → Bool
ahead v t tail (cmd.AskAt p o q) = nat_lt tail p && heard_now v t (is_tail (λ x. x == tail))
ahead v t tail x = false

abbrev pub forget_is : (Oid → ℕ → Bool) → CommandOf kinds → Bool
forget_is f (cmd.Forget o n) = f o n
forget_is f x = false

abbrev pub size_of : W → ℕ → Oid → Option (View kinds) → ℕ
size_of v k o None = 0
size_of v k o (Some u) = entry_size (checkpoint kinds u o u.upto k 1)

abbrev pub checkpoint_size : W → ℕ → CommandOf kinds → ℕ
checkpoint_size v k (cmd.Checkpoint o) = size_of v k o (client kinds v k).view
checkpoint_size v k x = 0

abbrev pub is_rescue : CommandOf kinds → Bool
is_rescue (cmd.Rescue p) = true
is_rescue x = false

abbrev pub is_wide : Option (Work kinds) → Bool
is_wide None = false
is_wide (Some v) = nat_le 128 (length v.oids)

abbrev pub later_cause : W → E → W → Told kinds → CommandOf kinds → Refusal → Bool
later_cause w e v t x (cause.Undecided p o) = cant_know v t p o x && lacks w e t p
later_cause w e v t x (cause.NoCheckpoint o) = forget_is (λ p n. oid_eq p o && no_base v t o n) x
later_cause w e v t x (cause.OpenDecision p) = forget_is (λ o n. nat_lt p n && lacks w e t p && least_by o p (walked_in kinds w e t.mark.client) && entry_here (entries_of (log kinds v)) p (λ d. lists d o && needs_decision d)) x
later_cause w e v t x (cause.LogFull n) = heard_now v t (is_full n)
later_cause w e v t x (cause.Forgotten at b) = named_trimmed v t at b x || own_trimmed v t at b
later_cause w e v t x (cause.Ahead tail) = ahead v t tail x
later_cause w e v t x (cause.NotWhole u p) = answered v t is_has u (is_missing p)
later_cause w e v t x (cause.Overtaken n) = list_any (overtakes t n) (layouts v)
later_cause w e v t x (cause.TooLarge n) = (checkpoint_size v t.mark.client x == n) && nat_lt 4096 n
later_cause w e v t x (cause.TooMany many.Hosted) = is_rescue x && is_wide (client kinds w t.mark.client).work
later_cause w e v t x why = is_cause why (layout_cause kinds (client kinds v t.mark.client).stand x)

abbrev pub cause_by : W → E → W → Told kinds → Option (CommandOf kinds) → Refusal → Bool
cause_by w e v t None why = false
cause_by w e v t (Some x) why = at_once w t.mark.client x why || later_cause w e v t x why

abbrev pub caused : W → E → W → Told kinds → WhatOf kinds → Bool
caused w e v t (told.Refused why) = cause_by w e v t (command_at kinds w e t.mark.client) why
caused w e v t (told.Unsure at p) = nat_le p at && list_any (λ o. is_unknown v t p o) (directory ∷ v.cluster.objects) && implies (nat_lt p at) (lacks w e t p)
caused w e v t what = true

abbrev pub causes_ok : W → E → W → Bool
causes_ok w e v = list_all (λ (t : Told kinds). caused w e v t t.mark.what) (replies w v)

abbrev pub none_at : W → Told kinds → ℕ → Bool
none_at v t p = heard_now v t (is_tail (λ tail. not (nat_lt p tail && entry_here (entries_of (log kinds v)) p (λ e. is_commit e && is_for (client kinds v t.mark.client) p e))))

abbrev pub none_ok_of : W → Told kinds → WhatOf kinds → Bool
none_ok_of v t (told.Fate p None) = none_at v t p
none_ok_of v t (told.Decided p None) = none_at v t p
none_ok_of v t (told.Rescued p None) = none_at v t p
none_ok_of v t what = true

abbrev pub nones_ok : W → W → Bool
nones_ok w v = list_all (λ (t : Told kinds). none_ok_of v t t.mark.what) (replies w v)

-- Rescues that stay undecided.

abbrev pub stuck_of : W → Told kinds → Option (CommandOf kinds) → WhatOf kinds → Bool
stuck_of v t (Some (cmd.Rescue p)) (told.Refused (cause.Undecided q o)) = walk_met_trim v t o
stuck_of v t x what = true

abbrev pub stuck_ok : W → W → Bool
stuck_ok w v = list_all (λ (t : Told kinds). stuck_of v t (command_in kinds (client kinds w t.mark.client).work) t.mark.what) (replies w v)

-- What stays.

abbrev pub keeps_hosts : Client kinds → Client kinds → Bool
keeps_hosts c d = oids_eq d.hosted c.hosted && states_eq d.dir c.dir && (d.played == c.played)

abbrev pub option_is : Option ℕ → Option ℕ → Bool
option_is None None = true
option_is (Some x) (Some y) = x == y
option_is x y = false

abbrev pub reads_eq : List ReadMark → List ReadMark → Bool
reads_eq xs ys = pointwise (λ (x y : ReadMark). oid_eq x.oid y.oid && part_eq x.part y.part && (x.version == y.version)) xs ys

abbrev pub same_tx : Tx → Tx → Bool
same_tx t u = (t.number == u.number) && reads_eq t.reads u.reads && writes_eq t.writes u.writes && option_is t.snapshot u.snapshot

abbrev pub tx_eq : Option Tx → Option Tx → Bool
tx_eq None None = true
tx_eq (Some t) (Some u) = same_tx t u
tx_eq t u = false

abbrev pub is_forgotten : WhatOf kinds → Bool
is_forgotten (told.Refused (cause.Forgotten at b)) = true
is_forgotten what = false

abbrev pub keeps_tx : WhatOf kinds → Client kinds → Client kinds → Bool
keeps_tx what c d = tx_eq d.tx c.tx || (is_forgotten what && not (is_some d.tx))

abbrev pub refused_keeps : W → W → Told kinds → Bool
refused_keeps w v t = implies (is_refused t.mark.what) (keeps_hosts (client kinds w t.mark.client) (client kinds v t.mark.client) && keeps_tx t.mark.what (client kinds w t.mark.client) (client kinds v t.mark.client))

-- a command that is refused in the step that gives it is refused before any work
abbrev pub refused_first : W → W → E → Bool
refused_first w v (Commands k x) = implies (says w v k is_refused) (runs kinds w (client_id k) && is_some (refusal kinds (client kinds w k) x))
refused_first w v e = true

abbrev pub silent_keeps : W → W → ℕ → Bool
silent_keeps w v k = says w v k (λ what. true) || (keeps_hosts (client kinds w k) (client kinds v k) && tx_eq (client kinds v k).tx (client kinds w k).tx)

-- the clients and the objects of the cluster
abbrev pub same_cluster : W → W → Bool
same_cluster w v = (length w.clients == length v.clients) && oids_eq v.cluster.objects w.cluster.objects

abbrev pub keeps_ok : W → E → W → Bool
keeps_ok w e v = refused_first w v e && list_all (refused_keeps w v) (replies w v) && each_client w (silent_keeps w v) && same_cluster w v

abbrev pub same_cell : Cell → Option Cell → Bool
same_cell c None = false
same_cell c (Some d) = cell_eq c d

-- only where a unit has moved
abbrev pub log_stays : W → W → Bool
log_stays w v = list_all (λ (x : ℕ × Cell). same_cell x.1 (cell_at (log kinds v) x.0)) (log kinds w)

unfoldable pub step_fails : W → E → W → List Claim
step_fails w e v =
    failed ((Stands, stands_ok w v) ∷ (Falls, each_client w (falls_ok w v)) ∷ (GivesUp, each_client v (gives_up_ok v)) ∷ (ReadsOn, each_client v (reads_on_ok w v))
    ∷ (SyncsExact, each_client w (exact_ok w e v)) ∷ (CausesRefuse, refuse_ok w v e) ∷ (CausesTrue, causes_ok w e v) ∷ (NonesTrue, nones_ok w v) ∷ (RefusalsKeep, keeps_ok w e v) ∷ (StuckTrue, stuck_ok w v) ∷ [])

-- Finishing.

abbrev pub the_one : List ℕ → Option ℕ
the_one (k ∷ []) = Some k
the_one ks = None

abbrev pub waiting_one : W → Option ℕ
waiting_one w = the_one (filter (λ k. runs kinds w (client_id k) && not (is_idle (client kinds w k).work)) (numbers w.cluster.clients 0))

abbrev pub is_ready : W → ℕ → Bool
is_ready w k =
    (length w.waiting == 0) && list_all (λ u. runs kinds w (unit_id u) && ((unit kinds w u).epoch == (latest kinds w).epoch)) (units_of (latest kinds w))
    && runs kinds w (seqr_id (latest kinds w).seq) && ((seqr kinds w (latest kinds w).seq).epoch == (latest kinds w).epoch)
    && nat_le (latest kinds w).start (seqr kinds w (latest kinds w).seq).next && ((client kinds w k).stand.epoch == (latest kinds w).epoch)

abbrev pub finishes_by : W → W → ℕ → Option (CommandOf kinds) → Bool
finishes_by w v k None = true
finishes_by w v k (Some (cmd.Reconf c)) = is_idle (client kinds v k).work && nat_le (deliveries kinds (is_with_client kinds k) w v) (2 * w.cluster.units + 64 * w.cluster.layouts + 22)
finishes_by w v k (Some x) = implies (is_ready w k) (is_idle (client kinds v k).work && nat_le (deliveries kinds (is_with_client kinds k) w v) (most_deliveries_in kinds w x))

abbrev pub finishes_one : W → W → Option ℕ → Bool
finishes_one w v None = true
finishes_one w v (Some k) = finishes_by w v k (command_in kinds (client kinds w k).work)

-- Lines.

abbrev pub steps_fail : List E → W → List Claim
steps_fail [] w = []
steps_fail (e ∷ es) w = let v = happens kinds w e in step_fails w e v ++ steps_fail es v

abbrev pub settles_fail : W → Line kinds → W → List Claim
settles_fail w Settle v = fails Finishes (finishes_one w v (waiting_one w))
settles_fail w x v = []

-- each line's failures, with its number
unfoldable pub run_fails : ℕ → List (Line kinds) → W → List (ℕ × List Claim)
run_fails n [] w = []
run_fails n (x ∷ xs) w =
    let w1 = next_event kinds w in let es = line_ev w1 x in let v = all_of es w1 in
    let f = steps_fail es w1 ++ world_fails v ++ fails LogStays (log_stays w1 v) ++ settles_fail w1 x v in
    elim f as (λ _. List (ℕ × List Claim)) [ [] ↦ run_fails (n + 1) xs v | y ∷ ys ↦ (n, y ∷ ys) ∷ run_fails (n + 1) xs v ]

abbrev pub failures : Header → List (Line kinds) → List (ℕ × List Claim)
failures h xs = run_fails 1 xs (start kinds h)

-- The walks that a run ended, and whether each was exact in the run's last world.

abbrev pub listed : Option (Walked kinds) → List (Walked kinds)
listed None = []
listed (Some x) = x ∷ []

abbrev pub walks_by : W → E → List ℕ → List (Walked kinds)
walks_by w e [] = []
walks_by w e (k ∷ ks) = listed (walked_in kinds w e k) ++ walks_by w e ks

abbrev pub walks_at : W → E → List (Walked kinds)
walks_at w e = walks_by w e (numbers w.cluster.clients 0)

-- the walks so far, and the world
pub record Ended : Type 0 where
  pub walks : List (Walked kinds)
  pub world : W

abbrev pub ended_steps : List E → Ended → Ended
ended_steps [] x = x
ended_steps (e ∷ es) x = ended_steps es (record { walks = walks_at x.world e ++ x.walks; world = happens kinds x.world e })

abbrev pub ended_lines : List (Line kinds) → Ended → Ended
ended_lines [] x = x
ended_lines (l ∷ ls) x = let w = next_event kinds x.world in ended_lines ls (ended_steps (line_ev w l) (record { walks = x.walks; world = w }))

abbrev pub exact_in : Ended → ℕ × Bool
exact_in x = (length x.walks, list_all (λ (y : Walked kinds). list_all (stream_exact x.world y) y.work.oids) x.walks)

abbrev pub exact_at_end : Header → List (Line kinds) → ℕ × Bool
exact_at_end h xs = exact_in (ended_lines xs (record { walks = []; world = start kinds h }))

-- Settlings of a run, each begun with all packets lost: is the one waiting client answered, in so few deliveries; and is it
-- without the settling.

abbrev pub lost : W → W
lost w = record w { waiting = [] }

abbrev pub settling : W → Option ℕ → List (Bool × Bool)
settling w None = []
settling w (Some k) = if is_ready w k then (finishes_one w (settle kinds w).world (Some k), finishes_one w w (Some k)) ∷ [] else []

abbrev pub settling_at : W → Line kinds → List (Bool × Bool)
settling_at w Settle = settling (lost w) (waiting_one w)
settling_at w x = []

abbrev pub settlings : List (Line kinds) → W → List (Bool × Bool)
settlings [] w = []
settlings (x ∷ xs) w = let v = next_event kinds w in settling_at v x ++ settlings xs (line kinds w x)

abbrev pub settlings_of : Header → List (Line kinds) → List (Bool × Bool)
settlings_of h xs = settlings xs (start kinds h)

-- The failures of a run's steps, where what some of them made is changed.

abbrev pub with_fails : List Claim → List (List Claim) → List (List Claim)
with_fails [] xs = xs
with_fails (y ∷ ys) xs = (y ∷ ys) ∷ xs

abbrev pub steps_wrong : (W → E → W → Bool) → (W → W) → List E → W → List (List Claim)
steps_wrong which f [] w = []
steps_wrong which f (e ∷ es) w = let v = happens kinds w e in with_fails (if which w e v then step_fails w e (f v) else []) (steps_wrong which f es v)

abbrev pub lines_wrong : (W → E → W → Bool) → (W → W) → List (Line kinds) → W → List (List Claim)
lines_wrong which f [] w = []
lines_wrong which f (x ∷ xs) w = let v = next_event kinds w in let es = line_ev v x in steps_wrong which f es v ++ lines_wrong which f xs (all_of es v)

abbrev pub changed_so : (W → E → W → Bool) → (W → W) → Header → List (Line kinds) → List (List Claim)
changed_so which f h xs = lines_wrong which f xs (start kinds h)

-- steps that reply, and steps that end walks

abbrev pub replied : W → E → W → Bool
replied w e v = nat_lt (length w.told) (length v.told)

abbrev pub ends_walks : W → E → W → Bool
ends_walks w e v = not (length (walks_at w e) == 0)

-- steps that read

abbrev pub is_read : Packet → Bool
is_read p = is_some (read_pos p.msg)

abbrev pub sends_reads : W → E → W → Bool
sends_reads w e v = list_any is_read (drop (length w.packets) v.packets)
