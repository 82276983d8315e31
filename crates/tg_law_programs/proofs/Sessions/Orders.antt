-- An order of steps is a run of a world.
use Rattle.std.proofs.Common.{◌≡◌, ◌∙◌, ◌+◌, ◌<◌, ℕ, zero, suc, Bool, true, false, List, [], ◌∷◌, ◌++◌, map, length, cond, replicate, refl, sym, ap, subst, arith, Some, append_assoc, append-nil}
use Rattle.std.specs.Prelude.{slice_get, filter, nat_lt, not, ◌&&◌, Contains}
use Rattle.std.specs.List.{slice_index_or, list_any}
use Rattle.std.proofs.lemmas.List.{map-append, length-map, length-replicate}
use Rattle.std.proofs.lemmas.List.Elements.{filter-append}
use Rattle.tg_base.specs.Clusters.{Header}
use Rattle.tg_base.specs.declared.ids.NodeId.{NodeId}
use Rattle.tg_base.specs.declared.ids.Role.{Role}
use Rattle.tg_base.specs.declared.ids.Role.TheVariants as role
use Rattle.tg_base.specs.declared.packet.Out.{Out}
use Rattle.tg_base.specs.declared.packet.Packet.{Packet}
use Rattle.tg_kind.specs.Meaning.{Meaning}
use Rattle.tg_model.specs.Kinds.{EventOf, NoteOf}
use Rattle.tg_model.specs.declared.command.Event.TheVariants.{Command as Commands, Deliver, Tick}
use Rattle.tg_base.specs.Orders.{node_eq}
use Rattle.tg_protocol.specs.Words.{numbers}
use Rattle.tg_protocol.specs.Layouts.{first_layout}
use Rattle.tg_protocol.specs.Units.{new_unit}
use Rattle.tg_protocol.specs.LayoutServers.{new_layout}
use Rattle.tg_protocol.specs.Sequencers.{new_seqr}
use Rattle.tg_protocol.specs.Clients.{new_client}
use Rattle.tg_protocol.specs.Worlds.{World, count_of, happens, packet_of, runs, start}
use Rattle.tg_node_state.specs.Nodes.{Node, NodeTurn, UnitNode, LayoutNode, SeqrNode, ClientNode, InputOf, begins, node_start, node_step}
use Rattle.tg_node_state.specs.declared.input.Input.TheVariants as input
use Rattle.tg_law_programs.specs.Sessions.Sessions.{Step, Said, after, count_in, declares, session, node_after, turn, sends_of, says_of, given, gathered, said_by, MayTake, GoesOn, node_at, node_in, said_in, run, IsEventOf, AreEventsOf, Shows, SessionsMakeARun}
use Rattle.tg_law_programs.proofs.Sessions.Moves.{Turned, tick_turns, packet_turns, command_turns}

-- ---- one step more

module _ (m : Meaning) where
  after_more : (n : Node m) (is : List (InputOf m)) (i : InputOf m) → after m n (is ++ i ∷ []) ≡ (node_step m (after m n is) i).now
  unfolding after
  after_more n [] i = refl
  after_more n (j ∷ js) i = after_more (node_step m n j).now js i

  gathered_more : {X : Type 0} (f : NodeId → NodeTurn m → List X) (h : Header) (before xs : List (Step m)) (s : Step m)
      → gathered m f h before (xs ++ s ∷ []) ≡ gathered m f h before xs ++ f s.node (turn m h (before ++ xs) s)
  unfolding gathered
  gathered_more f h before [] s = append-nil _ ∙ ap (λ (b : List (Step m)). f s.node (turn m h b s)) (sym (append-nil before))
  gathered_more {X} f h before (x ∷ xs) s =
      ap (λ (ys : List X). f x.node (turn m h before x) ++ ys)
      (gathered_more f h (before ++ x ∷ []) xs s
      ∙ ap (λ (b : List (Step m)). gathered m f h (before ++ x ∷ []) xs ++ f s.node (turn m h b s)) (append_assoc before (x ∷ []) xs))
      ∙ sym (append_assoc (f x.node (turn m h before x)) (gathered m f h (before ++ x ∷ []) xs) _)

  abbrev own : NodeId → Step m → Bool
  own n s = node_eq n s.node

  session_more : (n : NodeId) (before : List (Step m)) (s : Step m) → session m n (before ++ s ∷ []) ≡ session m n before ++ session m n (s ∷ [])
  session_more n before s =
      ap (map (λ (x : Step m). x.input)) (filter-append (own n) before (s ∷ [])) ∙ map-append (λ (x : Step m). x.input) (filter (own n) before) (filter (own n) (s ∷ []))

  own_more : (h : Header) (n : NodeId) (before : List (Step m)) (s : Step m) → node_eq n s.node ≡ true
      → node_after m h n (before ++ s ∷ []) ≡ (node_step m (node_after m h n before) s.input).now
  own_more h n before s is =
      let last : session m n (s ∷ []) ≡ s.input ∷ [] = rw is refl in
      ap (after m (node_start m h n)) (session_more n before s ∙ ap (λ (xs : List (InputOf m)). session m n before ++ xs) last)
      ∙ after_more (node_start m h n) (session m n before) s.input

  other_more : (h : Header) (n : NodeId) (before : List (Step m)) (s : Step m) → node_eq n s.node ≡ false → node_after m h n (before ++ s ∷ []) ≡ node_after m h n before
  other_more h n before s is =
      let last : session m n (s ∷ []) ≡ [] = rw is refl in
      ap (after m (node_start m h n)) (session_more n before s ∙ ap (λ (xs : List (InputOf m)). session m n before ++ xs) last ∙ append-nil _)

  same_node : (a b : NodeId) → node_eq a b ≡ true → a ≡ b
  unfolding node_eq
  same_node a b h = grind arith

  -- ---- a world that shows what was done so far

  record Stands (h : Header) (before : List (Step m)) (w : World m) : Type 0 where
    shows : Shows m h before w
    nodes : (n : NodeId) → node_in m w n ≡ node_after m h n before
    cluster : w.cluster ≡ h
    units : length w.units ≡ h.units
    layouts : length w.layouts ≡ h.layouts
    seqrs : length w.seqrs ≡ h.seqs
    clients : length w.clients ≡ h.clients
    stopped : w.stopped ≡ []

  count_is : (h : Header) (before : List (Step m)) (w : World m) (r : Role) → Stands h before w → count_of m w r ≡ count_in h r
  count_is h before w role.Unit s = s.units
  count_is h before w role.Layout s = s.layouts
  count_is h before w role.Seqr s = s.seqrs
  count_is h before w role.Client s = s.clients

  all_run : (h : Header) (before : List (Step m)) (w : World m) (n : NodeId) → Stands h before w → declares h n ≡ true → runs m w n ≡ true
  all_run h before w n s declared =
      let within : nat_lt n.num (count_of m w n.role) ≡ true = ap (nat_lt n.num) (count_is h before w n.role s) ∙ declared in
      let up : not (list_any (node_eq n) w.stopped) ≡ true = ap (λ (ns : List NodeId). not (list_any (node_eq n) ns)) s.stopped in
      ap (λ (b : Bool). b && not (list_any (node_eq n) w.stopped)) within ∙ up

  -- and stands after one step more
  moved : (h : Header) (before : List (Step m)) (w v : World m) (s : Step m) → Stands h before w
      → Turned m w v s.node (node_step m (node_in m w s.node) s.input) → Stands h (before ++ s ∷ []) v
  moved h before w v s stands t =
      let same : node_step m (node_in m w s.node) s.input ≡ turn m h before s = ap (λ (n : Node m). node_step m n s.input) (stands.nodes s.node) in
      record {
        shows = record {
          packets = t.packets ∙ ap (λ (x : NodeTurn m). w.packets ++ sends_of m s.node x) same
              ∙ ap (λ (ps : List Packet). ps ++ sends_of m s.node (turn m h before s)) stands.shows.packets ∙ sym (gathered_more (sends_of m) h [] before s);
          replies = t.replies ∙ ap (λ (x : NodeTurn m). said_in m w ++ says_of m s.node x) same
              ∙ ap (λ (ss : List (Said m)). ss ++ says_of m s.node (turn m h before s)) stands.shows.replies ∙ sym (gathered_more (says_of m) h [] before s);
        };
        nodes = λ n. each n (node_eq n s.node) refl same;
        cluster = t.cluster ∙ stands.cluster;
        units = t.units ∙ stands.units;
        layouts = t.layouts ∙ stands.layouts;
        seqrs = t.seqrs ∙ stands.seqrs;
        clients = t.clients ∙ stands.clients;
        stopped = t.stopped ∙ stands.stopped;
      }
    where
      each : (n : NodeId) (b : Bool) → node_eq n s.node ≡ b → node_step m (node_in m w s.node) s.input ≡ turn m h before s → node_in m v n ≡ node_after m h n (before ++ s ∷ [])
      each n true is same =
          let named : n ≡ s.node = same_node n s.node is in
          subst (λ (k : NodeId). node_in m v k ≡ node_after m h k (before ++ s ∷ [])) (sym named)
          (t.now ∙ ap (λ (x : NodeTurn m). x.now) same ∙ sym (own_more h s.node before s (ap (λ (k : NodeId). node_eq k s.node) (sym named) ∙ is)))
      each n false is same = t.others n is ∙ stands.nodes n ∙ sym (other_more h n before s is)

  -- ---- the event of a step

  found : {X : Type 0} (xs : List X) (k : ℕ) (x : X) → k < length xs → slice_index_or xs k x ≡ x → slice_get xs k ≡ Some x
  found [] k x lt is = absurd (omega arith)
  found (y ∷ ys) zero x lt is = ap Some is
  found (y ∷ ys) (suc k) x lt is = found ys k x (omega arith) is

  abbrev Moves : Header → List (Step m) → World m → Step m → Type 0
  Moves h before w s = (e : EventOf m) × IsEventOf m w s.node s.input e × Stands h (before ++ s ∷ []) (happens m w e)

  moves_by : (h : Header) (before : List (Step m)) (w : World m) (n : NodeId) (i : InputOf m) → Stands h before w → runs m w n ≡ true → MayTake m h before n i
      → Moves h before w (record { node = n; input = i })
  moves_by h before w n input.Tick stands ran may =
      (Tick n, refl, moved h before w (happens m w (Tick n)) (record { node = n; input = input.Tick }) stands (tick_turns m w n ran))
  moves_by h before w n (input.Packet p) stands ran may =
      let sent_before = may.1 in
      let there : Contains w.packets p = subst (λ (ps : List Packet). Contains ps p) (sym stands.shows.packets) sent_before in
      let here : slice_get w.packets there.0 ≡ Some p = found w.packets there.0 p there.1 there.2 in (
        Deliver there.0,
        (there.0, refl, here),
        moved h before w (happens m w (Deliver there.0)) (record { node = n; input = input.Packet p }) stands (packet_turns m w n p there.0 ran may.0 here),
      )
  moves_by h before w n (input.Command x) stands ran may =
      (Commands n.num x, refl, moved h before w (happens m w (Commands n.num x)) (record { node = n; input = input.Command x }) stands (command_turns m w n x ran may))

  -- ---- all steps

  abbrev Runs : Header → List (Step m) → List (Step m) → World m → Type 0
  Runs h before rest w = (events : List (EventOf m)) × AreEventsOf m w rest events × Stands h (before ++ rest) (run m w events)

  runs_on : (h : Header) (rest before : List (Step m)) (w : World m) → Stands h before w → GoesOn m h before rest → Runs h before rest w
  unfolding run
  runs_on h [] before w stands goes = ([], tt, subst (λ (b : List (Step m)). Stands h b w) (sym (append-nil before)) stands)
  runs_on h (s ∷ rest) before w stands goes =
      let first = moves_by h before w s.node s.input stands (all_run h before w s.node stands goes.0.0) goes.0.1 in
      let next = runs_on h rest (before ++ s ∷ []) (happens m w first.0) first.2 goes.1 in (
        first.0 ∷ next.0,
        (first.1, next.1),
        subst (λ (b : List (Step m)). Stands h b (run m (happens m w first.0) next.0)) (append_assoc before (s ∷ []) rest) next.2,
      )

  -- ---- the start

  numbers_count : (c from : ℕ) → length (numbers c from) ≡ c
  numbers_count zero from = refl
  numbers_count (suc c) from = let rest = numbers_count c (from + 1) in omega (arith, rest)

  get_replicated : {X : Type 0} (c k : ℕ) (x : X) → slice_index_or (replicate c x) k x ≡ x
  get_replicated zero k x = refl
  get_replicated (suc c) zero x = refl
  get_replicated (suc c) (suc k) x = get_replicated c k x

  get_numbered : {X : Type 0} (f : ℕ → X) (c from k n : ℕ) → n ≡ from + k → slice_index_or (map f (numbers c from)) k (f n) ≡ f n
  get_numbered f zero from k n is = refl
  get_numbered f (suc c) from zero n is = ap f (omega (arith, is))
  get_numbered f (suc c) from (suc k) n is = get_numbered f c (from + 1) k n (omega (arith, is))

  node_begins : (h : Header) (r : Role) (k : ℕ) → node_at m (start m h) r k ≡ begins m h k r
  unfolding start
  node_begins h role.Unit k = ap UnitNode (get_replicated h.units k new_unit)
  node_begins h role.Layout k = ap LayoutNode (get_replicated h.layouts k (new_layout (first_layout h)))
  node_begins h role.Seqr k = ap SeqrNode (get_numbered (λ n. new_seqr n h.limit (first_layout h)) h.seqs 0 k k (omega arith))
  node_begins h role.Client k = ap ClientNode (get_numbered (new_client m h) h.clients 0 k k (omega arith))

  starts : (h : Header) → Stands h [] (start m h)
  unfolding start gathered after
  starts h = record {
    shows = record {
      packets = refl;
      replies = refl;
    };
    nodes = λ n. node_begins h n.role n.num;
    cluster = refl;
    units = length-replicate h.units new_unit;
    layouts = length-replicate h.layouts (new_layout (first_layout h));
    seqrs = length-map (numbers h.seqs 0) (λ n. new_seqr n h.limit (first_layout h)) ∙ numbers_count h.seqs 0;
    clients = length-map (numbers h.clients 0) (new_client m h) ∙ numbers_count h.clients 0;
    stopped = refl;
  }

  -- ---- each session by itself

  abbrev Tells : {X : Type 0} → (X → NodeId) → (NodeId → NodeTurn m → List X) → Type 0
  Tells {X} from f = (n k : NodeId) (t : NodeTurn m) (b : Bool) → node_eq n k ≡ b → filter (λ (x : X). node_eq n (from x)) (f k t) ≡ cond b (f k t) []

  sends_tell : Tells (λ (p : Packet). p.from) (sends_of m)
  sends_tell n k t b is = go t.sends b is
    where
      go : (os : List Out) (b : Bool) → node_eq n k ≡ b → filter (λ (p : Packet). node_eq n p.from) (map (packet_of m k) os) ≡ cond b (map (packet_of m k) os) []
      go [] true is = refl
      go [] false is = refl
      go (o ∷ os) true is = rw is (ap (λ (ps : List Packet). packet_of m k o ∷ ps) (go os true is))
      go (o ∷ os) false is = rw is (go os false is)

  says_tell : Tells (λ (x : Said m). x.node) (says_of m)
  says_tell n k t b is = go t.notes b is
    where
      go : (xs : List (NoteOf m)) (b : Bool) → node_eq n k ≡ b → filter (λ (x : Said m). node_eq n x.node) (map (said_by m k) xs) ≡ cond b (map (said_by m k) xs) []
      go [] true is = refl
      go [] false is = refl
      go (x ∷ xs) true is = rw is (ap (λ (ys : List (Said m)). said_by m k x ∷ ys) (go xs true is))
      go (x ∷ xs) false is = rw is (go xs false is)

  pub own_first : (n : NodeId) (s : Step m) (rest : List (Step m)) → node_eq n s.node ≡ true → session m n (s ∷ rest) ≡ s.input ∷ session m n rest
  own_first n s rest is = rw is refl

  pub other_first : (n : NodeId) (s : Step m) (rest : List (Step m)) → node_eq n s.node ≡ false → session m n (s ∷ rest) ≡ session m n rest
  other_first n s rest is = rw is refl

  own_gathered : {X : Type 0} (from : X → NodeId) (f : NodeId → NodeTurn m → List X) → Tells from f → (h : Header) (n : NodeId) (rest before : List (Step m))
      → filter (λ (x : X). node_eq n (from x)) (gathered m f h before rest) ≡ given m (f n) (node_after m h n before) (session m n rest)
  unfolding gathered given
  own_gathered from f tells h n [] before = refl
  own_gathered {X} from f tells h n (s ∷ rest) before =
      filter-append (λ (x : X). node_eq n (from x)) (f s.node (turn m h before s)) (gathered m f h (before ++ s ∷ []) rest)
      ∙ by (node_eq n s.node) refl (own_gathered from f tells h n rest (before ++ s ∷ []))
    where
      by : (b : Bool) → node_eq n s.node ≡ b
          → filter (λ (x : X). node_eq n (from x)) (gathered m f h (before ++ s ∷ []) rest) ≡ given m (f n) (node_after m h n (before ++ s ∷ [])) (session m n rest)
          → filter (λ (x : X). node_eq n (from x)) (f s.node (turn m h before s)) ++ filter (λ (x : X). node_eq n (from x)) (gathered m f h (before ++ s ∷ []) rest)
          ≡ given m (f n) (node_after m h n before) (session m n (s ∷ rest))
      by true is later =
          let named : n ≡ s.node = same_node n s.node is in
          let now : Node m = node_after m h n before in
          let first : filter (λ (x : X). node_eq n (from x)) (f s.node (turn m h before s)) ≡ f n (node_step m now s.input) =
          tells n s.node (turn m h before s) true is ∙ ap (λ (k : NodeId). f k (node_step m (node_after m h k before) s.input)) (sym named) in
          let others : filter (λ (x : X). node_eq n (from x)) (gathered m f h (before ++ s ∷ []) rest) ≡ given m (f n) (node_step m now s.input).now (session m n rest) =
          later ∙ ap (λ (k : Node m). given m (f n) k (session m n rest)) (own_more h n before s is) in
          (λ i. first i ++ others i) ∙ ap (given m (f n) now) (sym (own_first n s rest is))
      by false is later =
          let others : filter (λ (x : X). node_eq n (from x)) (gathered m f h (before ++ s ∷ []) rest) ≡ given m (f n) (node_after m h n before) (session m n rest) =
          later ∙ ap (λ (k : Node m). given m (f n) k (session m n rest)) (other_more h n before s is) in
          (λ i. tells n s.node (turn m h before s) false is i ++ others i) ∙ ap (given m (f n) (node_after m h n before)) (sym (other_first n s rest is))

  pub sessions_make_a_run : SessionsMakeARun m
  unfolding after
  sessions_make_a_run h sessions steps same order =
      let r = runs_on h steps [] (start m h) (starts h) order in
      let w : World m = run m (start m h) r.0 in (
        r.0,
        r.1,
        r.2.shows,
        record {
          nodes = λ n. r.2.nodes n ∙ ap (after m (node_start m h n)) (same n);
          packets = λ n.
              ap (filter (λ (p : Packet). node_eq n p.from)) r.2.shows.packets ∙ own_gathered (λ (p : Packet). p.from) (sends_of m) sends_tell h n steps []
              ∙ ap (given m (sends_of m n) (node_start m h n)) (same n);
          replies = λ n.
              ap (filter (λ (x : Said m). node_eq n x.node)) r.2.shows.replies ∙ own_gathered (λ (x : Said m). x.node) (says_of m) says_tell h n steps []
              ∙ ap (given m (says_of m n) (node_start m h n)) (same n);
        },
      )
