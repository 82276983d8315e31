-- What clients find is so, since what they append is.
use Rattle.std.proofs.Common.{◌≡◌, ℕ, ◌≤◌, arith, List, ◌∷◌, Bool, true, false, refl, sym, ap, ◌∙◌, subst, Option, Some, None, Contains}
use Rattle.std.specs.Prelude.{◌++◌}
use Rattle.tg_base.specs.Clusters.{Header}
use Rattle.tg_base.specs.declared.cell.Cell.{Cell}
use Rattle.tg_base.specs.declared.ids.Oid.{Oid}
use Rattle.tg_entry.specs.declared.entry.Body.{Body}
use Rattle.tg_entry.specs.declared.entry.Entry.{Entry}
use Rattle.tg_kind.specs.Meaning.{Meaning}
use Rattle.tg_model.specs.Kinds.{CommandOf, EventOf}
use Rattle.tg_model.specs.declared.command.Command.TheVariants as cmd
use Rattle.tg_protocol.specs.Words.{directory}
use Rattle.tg_protocol.specs.Appending.{Append}
use Rattle.tg_protocol.specs.Views.{Entries, Base, View, base_of, state_of, fate_of, view_start}
use Rattle.tg_protocol.specs.Checkpoints.{base_at, view_bases}
use Rattle.tg_protocol.specs.Past.{commit_at, past_at}
use Rattle.tg_protocol.specs.Answers.{view_or_new, play_target}
use Rattle.tg_protocol.specs.Clients.{Task, Syncing, Walking, Appending, Trimming, Copying', Reconfiguring, Hand, Doing, Learning, Work, Client, member_entries, all_entries}
use Rattle.tg_protocol.specs.ClientSteps.{task_in, given_up_if}
use Rattle.tg_protocol.specs.ClientSteps as step
use Rattle.tg_protocol.specs.Worlds.{World, start, client}
use Rattle.tg_protocol.specs.Runs.{Moves, Takes, run}
use Rattle.tg_protocol.specs.Holding.{WasBegun, append_of, append_by}
use Rattle.tg_law_replies.specs.Plays.Sound.{IsRising, IsBase, base_among}
use Rattle.tg_law_replies.specs.History.Logs.{AreListed}
use Rattle.tg_law_replies.proofs.History.Members.{Has, contained_has}
use Rattle.tg_law_replies.specs.Views.Views.{IsTrueBase, IsTrueView, AreTrueDecisions, AreEntriesFor, CanJudge}
use Rattle.tg_law_replies.specs.Views.Looking.{IsRescuer}
use Rattle.tg_law_replies.specs.Views.Exact.{LeavesNone, AreWriting}
use Rattle.tg_law_replies.proofs.Views.Plays.{played_stands}
use Rattle.tg_law_replies.proofs.Views.Records.{commit_there, decision_there}
use Rattle.tg_law_replies.proofs.Views.Bases.{bases_good, bases_lawful}
use Rattle.tg_law_replies.proofs.Views.Settled.{plays_further}
use Rattle.tg_law_replies.proofs.Views.Exact.{new_view, past_at_tail, rescuer}
use Rattle.tg_law_replies.proofs.Views.Judges.{mine_below, goes_beyond, judges_all}
use Rattle.tg_law_replies.specs.Replies.Runs.{InEachStep}
use Rattle.tg_law_replies.specs.Replies.Steps.{EachEvent}
use Rattle.tg_law_replies.specs.Replies.Found.{mine, target, HasFound, HasWalked, Fits, FindsFor, Finds}
use Rattle.tg_law_replies.proofs.Replies.Along.{Along, passed}
use Rattle.tg_law_replies.proofs.Replies.Ready.{IsReady, IsReadyToPlay, Ready, GoesPast, Suits, view_of, played}
use Rattle.tg_law_replies.proofs.Replies.Shape.{Shape, InShape, WalksFor, WaitsFor, WorksFor}
use Rattle.tg_law_replies.proofs.Replies.Answering.{AsksAt}
use Rattle.tg_law_replies.proofs.Replies.Shaping.{Asks, AllShaped}
use Rattle.tg_law_replies.proofs.Replies.Carried.{Carries, WalksBy, carried_more, event_more}
use Rattle.tg_law_replies.proofs.Replies.Moves.{TrueBody, TrueDraft, TrueTask, TrueHand}
use Rattle.tg_law_replies.proofs.Replies.Runs.{Right}

no_append : (a : Append) → None ≡ Some a → ⊥
no_append a e = cc

module _ (m : Meaning) (h : Header) (es : Entries) (rising : IsRising es) (listed : AreListed es) (writing : AreWriting es) where
  abbrev True : Entry → Type 0
  True e = TrueDraft m h.objects es rising listed e

  hand_true : (d : Hand m) → TrueHand m h.objects es rising listed d → TrueTask m h.objects es rising listed (task_in m d)
  hand_true (Doing t) k = k
  hand_true (Learning waits t) k = k

  -- what a client appends is true
  append_true : (t : Task m) (a : Append) → TrueTask m h.objects es rising listed t → append_of m t ≡ Some a → True a.draft
  append_true (Appending b x) a k is = subst (λ (y : Append). True y.draft) (one b a is) k.0
    where
      one : (x y : Append) → Some x ≡ Some y → x ≡ y
      one x y e = cc
  append_true (Syncing s) a k is = absurd (no_append a is)
  append_true (Walking x os) a k is = absurd (no_append a is)
  append_true (Trimming x) a k is = absurd (no_append a is)
  append_true (Copying' x) a k is = absurd (no_append a is)
  append_true (Reconfiguring x) a k is = absurd (no_append a is)

  work_true : (v : Option (Work m)) (a : Append) → ((x : Work m) → v ≡ Some x → TrueHand m h.objects es rising listed x.hand) → append_by m v ≡ Some a → True a.draft
  work_true None a k is = absurd (no_append a is)
  work_true (Some x) a k is = append_true (task_in m x.hand) a (hand_true x.hand (k x refl)) is

  -- what was begun in a run whose clients were right is true
  pub was_begun : (before : Moves m) → Along m (Right m h es rising listed) before (start m h) → (e : Entry) → WasBegun m h before e → True e
  was_begun before sofar e b =
      let right : Right m h es rising listed b.at =
      subst (λ (u : World m). Right m h es rising listed u) (sym b.passed.is)
      (passed m (Right m h es rising listed) b.passed.before b.passed.after (start m h) (subst (λ (xs : Moves m). Along m (Right m h es rising listed) xs (start m h)) b.passed.split sofar)) in
      let a = work_true (client m b.at e.head.client).work b.append (right.clients e.head.client).work b.begun in
      subst True (sym b.draft) (a.0, a.1)

  module _ (before : Moves m) (sofar : Along m (Right m h es rising listed) before (start m h)) (own : Entries) (written : (p : ℕ) (e : Entry) → Contains own (p, e) → WasBegun m h before e) where
    decisions_true : AreTrueDecisions m h.objects es own
    decisions_true p b is =
        let d = decision_there own p b is in
        subst (λ (x : Body). TrueBody m h.objects es rising listed x) d.is (was_begun before sofar d.entry (written d.at d.entry (contained_has own (d.at, d.entry) d.here))).0

    saves_good : (p : ℕ) (e : Entry) (x : Oid) (b : Base m) → Has own (p, e) → base_at m x e ≡ Some b → IsTrueBase m h.objects es x b × IsBase m b
    saves_good p e x b i k = (was_begun before sofar e (written p e (contained_has own (p, e) i))).1 x b k

  -- The view that begins a play.

  module _ (before : Moves m) (sofar : Along m (Right m h es rising listed) before (start m h)) (c : Client m) (v : Work m) (shape : Shape m h.objects c) (walks : WalksFor m c.tx c.hosted v.command) (f : HasFound m h es before c v) where
    abbrev own : Entries
    own = mine m c v

    abbrev upto : ℕ
    upto = target m v

    pub record IsBegun (x : View m) : Type 0 where
      pub entries : AreEntriesFor m h.objects es x own upto
      pub low : x.upto ≤ upto
      pub hosts : (o : Oid) → Contains c.hosted o → (b : Base m) × (base_of m x o ≡ Some b) × (b.upto ≤ v.tail)
      pub based : (o : Oid) (t : m.state) → state_of m x o ≡ Some t → (b : Base m) × (base_of m x o ≡ Some b) × (b.upto ≤ v.tail)

    kept_begun : (k : View m) → c.view ≡ Some k → IsBegun k
    kept_begun k is =
        let g = f.kept k is in
        let s = shape.view k is in
        record {
          entries = record { rising = g.entries.rising; only = g.entries.only; all = λ o b p e i j l low less. g.entries.all o b p e i j l low (let le = f.high in omega (arith, less, le)) };
          low = g.stands;
          hosts = λ o i. let b = s.hosts o i in (b.0, b.1, g.low o b.0 b.1);
          based = λ o t i. let b = s.states o t i in (b.0, b.1, g.low o b.0 b.1);
        }

    good : (p : ℕ) (e : Entry) (x : Oid) (b : Base m) → Has own (p, e) → base_at m x e ≡ Some b → IsTrueBase m h.objects es x b
    good p e x b i k = (saves_good before sofar own f.written p e x b i k).0

    new_begun : c.view ≡ None → IsBegun (view_start m (view_bases m own v.trims h.objects c.hosted))
    new_begun none =
        let g = new_view m h.objects es rising listed own v.trims c.hosted v.tail (f.new none) good (λ p e o b i k. f.saved p e o b (contained_has own (p, e) i) k) in
        record { entries = g.entries upto f.high; low = g.low upto; hosts = g.hosts; based = g.based }

    begun : (o : Option (View m)) → c.view ≡ o → IsBegun (view_or_new m c v own o)
    begun None is = subst (λ (os : List Oid). IsBegun (view_start m (view_bases m own v.trims os c.hosted))) (sym shape.objects_are) (new_begun is)
    begun (Some k) is = kept_begun k is

    abbrev first_view : View m
    first_view = view_of m h.objects es c v

    begins : IsBegun (view_of m h.objects es c v)
    begins = begun c.view refl

    -- it leaves no record that it went past to be judged anew
    leaves : ((k : View m) → c.view ≡ Some k → LeavesNone m k own) → LeavesNone m (view_of m h.objects es c v) own
    unfolding view_start
    leaves none = by c.view refl
      where
        by : (o : Option (View m)) → c.view ≡ o → LeavesNone m (view_or_new m c v own o) own
        by None is = λ p e i commit needs less. absurd (omega (arith, less))
        by (Some k) is = none k is

    looks : (p : ℕ) → upto ≡ v.tail → ((k : View m) → c.view ≡ Some k → LeavesNone m k own) → IsTrueView m h.objects es (view_of m h.objects es c v) → (e : Entry) → commit_at own p ≡ Some e
        → fate_of m (played m h.objects es c v).view p ≡ None → GoesPast m h.objects es (played m h.objects es c v) p → CanJudge m (played m h.objects es c v).view own p e
    looks p at fit so e here none past =
        judges_all m h.objects es own (view_of m h.objects es c v) upto p e so begins.entries.rising begins.entries.only (λ q d i. writing q d (begins.entries.only q d i)) (leaves fit) here
        (goes_beyond m own (view_of m h.objects es c v) upto p begins.low (let less = mine_below m c v c.hosted p e (commit_there m own p e here).0 in omega (arith, less, at)) past) none

    suits_by : (x : CommandOf m) → v.command ≡ x → WalksFor m c.tx c.hosted x → Fits m h es before c v x → Suits m h.objects es own v (view_of m h.objects es c v) (played m h.objects es c v) x
    suits_by (cmd.Fate p) is k fit = looks p (ap (λ (x : CommandOf m). play_target m v x) is) fit
    suits_by (cmd.Decide p) is k fit = looks p (ap (λ (x : CommandOf m). play_target m v x) is) fit
    suits_by (cmd.Checkpoint o) is k fit = λ at.
        let b = begins.hosts o k.1 in
        record {
          base = b.0;
          hosted = ap (λ (bs : List (Base m)). base_among m bs o) (plays_further m own (view_of m h.objects es c v) upto).bases ∙ b.1;
          low = b.2;
          loads = fit;
        }
    suits_by x is k fit = tt

    found_ready : IsReadyToPlay m h.objects es c v
    found_ready = record {
      bases = λ none o b is. bases_good m h.objects es rising own v.trims c.hosted good o b (ap (λ (os : List Oid). base_among m (view_bases m own v.trims os c.hosted) o) (sym shape.objects_are) ∙ is);
      lawful = λ none. bases_lawful m c.objects es rising own v.trims c.hosted (λ p e x b i k. (saves_good before sofar own f.written p e x b i k).1);
      dir = let b = begins.hosts directory shape.dir in (b.0, b.1);
      entries = begins.entries;
      decisions = decisions_true before sofar own f.written;
      low = begins.low;
      based = λ o t is.
          let d = plays_further m own (view_of m h.objects es c v) upto in
          let u = d.states o t is in
          let b = begins.based o u.0 u.1 in
          (b.0, ap (λ (bs : List (Base m)). base_among m bs o) d.bases ∙ b.1, b.2);
      first = λ o q t is has. subst (WalksFor m c.tx c.hosted) is walks t has;
      suits = suits_by v.command refl walks f.fits;
    }

  -- Past views and rescues.

  past_ready : (before : Moves m) → Along m (Right m h es rising listed) before (start m h) → (c : Client m) (v : Work m) (p : ℕ) (o : Oid) (q : m.ask) → Shape m h.objects c → HasWalked m h es before (member_entries m c v v.oids) v
      → IsReady m h.objects es c v (cmd.AskAt p o q)
  past_ready before sofar c v p o q shape f le y t is came =
      past_at_tail m h.objects es rising listed (member_entries m c v v.oids) v.trims v.oids v.tail f.exact (λ n e x b i k. (saves_good before sofar (member_entries m c v v.oids) f.written n e x b i k).0)
      (decisions_true before sofar (member_entries m c v v.oids) f.written) o p y t le (ap (λ (os : List Oid). past_at m (member_entries m c v v.oids) v.trims v.oids os o p) (sym shape.objects_are) ∙ is) came

  rescue_ready : (before : Moves m) → Along m (Right m h es rising listed) before (start m h) → (c : Client m) (v : Work m) (p : ℕ) → Shape m h.objects c → HasWalked m h es before (all_entries m c v v.oids) v
      → IsReady m h.objects es c v (cmd.Rescue p)
  rescue_ready before sofar c v p shape f e is =
      subst (λ (os : List Oid). IsRescuer m h.objects es (all_entries m c v v.oids) v.trims v.oids os p e) (sym shape.objects_are)
      (rescuer m h.objects es rising listed (all_entries m c v v.oids) v.trims v.oids v.tail f.exact (λ n d x b i k. (saves_good before sofar (all_entries m c v v.oids) f.written n d x b i k).0)
      (decisions_true before sofar (all_entries m c v v.oids) f.written) p e (mine_below m c v v.oids p e (commit_there m (all_entries m c v v.oids) p e is).0) is)

  -- a client in shape, whose command walks
  abbrev InWalk : Client m → Work m → Type 0
  InWalk c v = Shape m h.objects c × WalksFor m c.tx c.hosted v.command

  finds_ready : (before : Moves m) → Along m (Right m h es rising listed) before (start m h) → (c : Client m) (v : Work m) → InWalk c v → Finds m h es before c v → Ready m h.objects es c v
  finds_ready before sofar c v i f = by v.command i.1 f refl
    where
      by : (x : CommandOf m) → WalksFor m c.tx c.hosted x → FindsFor m h es before c v x → v.command ≡ x → IsReady m h.objects es c v x
      by (cmd.AskAt p o q) k f is = past_ready before sofar c v p o q i.0 f
      by (cmd.Rescue p) k f is = rescue_ready before sofar c v p i.0 f
      by x k f is = found_ready before sofar c v i.0 i.1 f

  in_walk : Carries m InWalk
  in_walk = record {
    turned = λ c w n g i. i;
    taken = λ c w o x i. i;
    known = λ c w s tail lasts lo i. knows c w s i;
    given = λ c w b i. gives c w b i;
    over = λ c w i. i;
    again = λ c w i. i;
    stood = λ c w q i. i;
  }
    where
      knows : (c : Client m) (w : Work m) (s : Option (ℕ × Cell)) → InWalk c w → InWalk (step.knows m c s) w
      knows c w None i = i
      knows c w (Some s) i = i

      gives : (c : Client m) (w : Work m) (b : Bool) → InWalk c w → InWalk (given_up_if m b c) w
      gives c w true i = (record { objects_are = i.0.objects_are; dir = i.0.dir; view = λ v is. absurd (none v is) }, i.1)
        where
          none : (v : View m) → None ≡ Some v → ⊥
          none v e = cc
      gives c w false i = i

  walks_at : (c : Client m) (v : Work m) → InShape m h.objects c → c.work ≡ Some v → WalksBy m InWalk c v (task_in m v.hand)
  walks_at c v i is = by (task_in m v.hand) (subst (WorksFor m c.tx c.view c.hosted) is i.1)
    where
      by : (t : Task m) → WaitsFor m c.tx c.view c.hosted v.command t → WalksBy m InWalk c v t
      by (Syncing s) k = (i.0, k)
      by (Walking x os) k = (i.0, k)
      by (Appending a y) k = tt
      by (Trimming x) k = tt
      by (Copying' x) k = tt
      by (Reconfiguring x) k = tt

  -- each step finds what it needs, since what was found was appended before
  pub each_ready : (ms : Moves m) → InEachStep m h ms (λ before v e. EachEvent m h.objects es (Finds m h es before) v e) → (before after : Moves m) (e : EventOf m) → ms ≡ before ++ Takes e ∷ after
      → Along m (Right m h es rising listed) before (start m h) → AllShaped m h.objects es (run m before (start m h)) → EachEvent m h.objects es (Ready m h.objects es) (run m before (start m h)) e
  each_ready ms finds before after e split sofar shaped =
      carried_more m h.objects es (Finds m h es before) (Finds m h es before) (Ready m h.objects es) InWalk in_walk (λ c v i f g. finds_ready before sofar c v i f) (run m before (start m h)) e
      (λ k v is. walks_at (client m (run m before (start m h)) k) v (shaped k) is) (finds before after e split) (finds before after e split)

-- what a client that is ready for an ask plays comes to the tail
module _ (m : Meaning) (objects : List Oid) (es : Entries) where
  asks_there : (c : Client m) (v : Work m) → Ready m objects es c v → Asks m objects es c v
  asks_there c v r = by v.command refl r
    where
      by : (x : CommandOf m) → v.command ≡ x → IsReady m objects es c v x → AsksAt m objects c v x
      by (cmd.Ask o q) is r = λ t came r'. record {
        stands = played_stands m (mine m c v) (target m v) t (view_of m objects es c v) r.low came ∙ ap (λ (x : CommandOf m). play_target m v x) is;
        based = r.based r';
      }
      by x is r = tt

  pub each_asks : (w : World m) (e : EventOf m) → EachEvent m objects es (Ready m objects es) w e → EachEvent m objects es (Asks m objects es) w e
  each_asks w e h = event_more m objects es (Ready m objects es) (Asks m objects es) asks_there w e h
