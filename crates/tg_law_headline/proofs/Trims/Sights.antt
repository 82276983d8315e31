-- A client that has found what it needs sees the log's directory.
use Rattle.std.proofs.Common.{◌≡◌, ℕ, ◌≤◌, max, List, [], ◌∷◌, ◌++◌, Bool, true, false, refl, sym, ap, ◌∙◌, subst, arith, Option, Some, None}
use Rattle.tg_base.specs.Clusters.{Header}
use Rattle.tg_base.specs.declared.cell.Cell.{Cell}
use Rattle.tg_base.specs.declared.ids.Oid.{Oid}
use Rattle.tg_kind.specs.Meaning.{Meaning}
use Rattle.tg_model.specs.declared.command.Command.TheVariants as cmd
use Rattle.tg_model.specs.declared.play.PlayEnd.TheVariants.{Played}
use Rattle.tg_model.specs.Kinds.{CommandOf, EventOf}
use Rattle.tg_protocol.specs.Words.{directory}
use Rattle.tg_protocol.specs.Views.{Entries, Base, View, base_of, state_of}
use Rattle.tg_protocol.specs.Checkpoints.{view_bases}
use Rattle.tg_protocol.specs.Clients.{Task, Syncing, Walking, Appending, Trimming, Copying', Reconfiguring, Work, Client}
use Rattle.tg_protocol.specs.Answers.{play_target, view_or_new}
use Rattle.tg_protocol.specs.ClientSteps.{knows, given_up_if, task_in}
use Rattle.tg_protocol.specs.Worlds.{World, start, client}
use Rattle.tg_protocol.specs.Runs.{Moves, Takes, Reaches}
use Rattle.tg_law_layouts.specs.Moves.After.{after}
use Rattle.tg_law_cells.proofs.Entries.Lists.{joined}
use Rattle.tg_law_replies.specs.Plays.Sound.{base_among}
use Rattle.tg_law_replies.specs.History.Logs.{state_below, AreListed}
use Rattle.tg_law_replies.specs.History.Worlds.{entries_in}
use Rattle.tg_law_replies.proofs.History.Cells.{logs_rise}
use Rattle.tg_law_replies.specs.Views.Views.{IsTrueView, IsTrueOf}
use Rattle.tg_law_replies.specs.Views.Exact.{AreWriting}
use Rattle.tg_law_replies.proofs.Views.Plays.{played_stands, bases_stay, starts_true, plays_true}
use Rattle.tg_law_replies.proofs.Pages.Read.{logs_keep_grammar}
use Rattle.tg_law_replies.specs.Replies.Ended.{AppendsEnd}
use Rattle.tg_law_replies.specs.Replies.Found.{mine, target}
use Rattle.tg_law_replies.specs.Replies.Laws.{ClientsFind}
use Rattle.tg_law_replies.specs.Replies.Steps.{EachEvent}
use Rattle.tg_law_replies.proofs.Replies.Along.{Along, at_end}
use Rattle.tg_law_replies.proofs.Replies.Carried.{Carries, WalksBy, carried_more}
use Rattle.tg_law_replies.proofs.Replies.Found.{each_ready}
use Rattle.tg_law_replies.proofs.Replies.Ready.{IsReady, IsReadyToPlay, Ready, view_of, played}
use Rattle.tg_law_replies.proofs.Replies.Telling.{RightAndKept, of_right, found_kept}
use Rattle.tg_law_headline.specs.Trims.Floors.{SeesDirectory, FindSoFar, SightsByFinds}

one_base : {X : Type 0} → (a b : X) → Some a ≡ Some b → a ≡ b
one_base a b e = cc

reaches_there : (a b t : ℕ) → a ≡ t → b ≤ t → max a b ≡ t
reaches_there a b t e le = omega (arith, e, le)

no_view : {X Y : Type 0} → (v : X) → None ≡ Some v → Y
no_view v e = absurd (cc)

module _ (m : Meaning) (objects : List Oid) (w : World m) (listed : AreListed (entries_in m w)) where
  abbrev es : Entries
  es = entries_in m w

  -- a view that is true, from where the walks of a step begin
  abbrev SeesTrue : Client m → Work m → Type 0
  SeesTrue c v = (k : View m) → c.view ≡ Some k → IsTrueView m objects (entries_in m w) k

  known_true : (c : Client m) (v : Work m) (s : Option (ℕ × Cell)) → SeesTrue c v → SeesTrue (knows m c s) v
  known_true c v None i = i
  known_true c v (Some s) i = i

  given_true : (c : Client m) (v : Work m) (b : Bool) → SeesTrue c v → SeesTrue (given_up_if m b c) v
  given_true c v true i k is = no_view k is
  given_true c v false i k is = i k is

  pub stays_true : Carries m SeesTrue
  stays_true = record {
    turned = λ c v n g i. i;
    taken = λ c v o x i. i;
    known = λ c v s tail lasts lo i. known_true c v s i;
    given = λ c v b i. given_true c v b i;
    over = λ c v i. i;
    again = λ c v i. i;
    stood = λ c v q i. i;
  }

  pub walks_true : (c : Client m) (v : Work m) (t : Task m) → SeesTrue c v → WalksBy m SeesTrue c v t
  walks_true c v (Syncing s) i = i
  walks_true c v (Walking k os) i = i
  walks_true c v (Appending a y) i = tt
  walks_true c v (Trimming x) i = tt
  walks_true c v (Copying' x) i = tt
  walks_true c v (Reconfiguring x) i = tt

  -- The play of a client that is ready.
  module _ (c : Client m) (v : Work m) (i : SeesTrue c v) (is : v.command ≡ cmd.Trim) (g : IsReadyToPlay m objects (entries_in m w) c v) where
    begins : IsTrueView m objects (entries_in m w) (view_of m objects (entries_in m w) c v)
    begins = by c.view refl
      where
        by : (o : Option (View m)) → c.view ≡ o → IsTrueView m objects (entries_in m w) (view_or_new m c v (mine m c v) o)
        by None e = starts_true m objects (entries_in m w) (view_bases m (mine m c v) v.trims c.objects c.hosted) (logs_rise m w) (g.bases e)
        by (Some k) e = i k e

    so : IsTrueView m objects (entries_in m w) (played m objects (entries_in m w) c v).view
    so = plays_true m objects (entries_in m w) (mine m c v) (view_of m objects (entries_in m w) c v) (target m v) (logs_rise m w) listed g.decisions g.entries begins

    hosted : base_of m (played m objects (entries_in m w) c v).view directory ≡ Some g.dir.0
    hosted =
        ap (λ (bs : List (Base m)). base_among m bs directory) (bases_stay m objects (entries_in m w) (mine m c v) (view_of m objects (entries_in m w) c v) (target m v) (logs_rise m w) listed g.decisions g.entries begins)
        ∙ g.dir.1

    told : IsTrueOf m objects (entries_in m w) (played m objects (entries_in m w) c v).view directory g.dir.0
    told = so.told directory g.dir.0 hosted

    low : g.dir.0.upto ≤ v.tail
    low =
        let b = g.based directory _ told.state in
        subst (λ (x : Base m). x.upto ≤ v.tail) (one_base b.0 g.dir.0 (sym b.1 ∙ hosted)) b.2

    pub sees : (t : ℕ) → (played m objects (entries_in m w) c v).came ≡ Played t → state_of m (played m objects (entries_in m w) c v).view directory ≡ Some (state_below m objects (entries_in m w) v.tail directory)
    sees t came =
        let at = played_stands m (mine m c v) (target m v) t (view_of m objects (entries_in m w) c v) g.low came ∙ ap (λ (x : CommandOf m). play_target m v x) is in
        told.state ∙ ap (λ (n : ℕ). Some (state_below m objects (entries_in m w) n directory)) (reaches_there (played m objects (entries_in m w) c v).view.upto g.dir.0.upto v.tail at low)

  pub ready_sees : (c : Client m) (v : Work m) → SeesTrue c v → Ready m objects (entries_in m w) c v → SeesDirectory m objects w c v
  ready_sees c v i g t is came = sees c v i is (subst (λ (x : CommandOf m). IsReady m objects (entries_in m w) c v x) is g) t came

module _ (m : Meaning) (h : Header) (before : Moves m) (e : EventOf m) (r : Reaches m h before (after m h before)) (finds : FindSoFar m h before e (after m h before)) (ends : AppendsEnd m h before (after m h before)) where
  abbrev u : World m
  u = after m h before

  listed : AreListed (entries_in m (after m h before))
  listed = (logs_keep_grammar m (after m h before)).0

  writing : AreWriting (entries_in m (after m h before))
  writing = (logs_keep_grammar m (after m h before)).1

  found_before : ClientsFind m h before (after m h before)
  found_before b a x split = finds b (a ++ Takes e ∷ []) x (ap (λ (ms : Moves m). ms ++ Takes e ∷ []) split ∙ joined b (Takes x ∷ a) (Takes e ∷ []))

  both : Along m (RightAndKept m h (entries_in m (after m h before)) (logs_rise m (after m h before)) listed) before (start m h)
  both = found_kept m h before (after m h before) listed writing r found_before ends

  now : RightAndKept m h (entries_in m (after m h before)) (logs_rise m (after m h before)) listed (after m h before)
  now = at_end m (RightAndKept m h (entries_in m (after m h before)) (logs_rise m (after m h before)) listed) before (start m h) both

  ready : EachEvent m h.objects (entries_in m (after m h before)) (Ready m h.objects (entries_in m (after m h before))) (after m h before) e
  ready =
      each_ready m h (entries_in m (after m h before)) (logs_rise m (after m h before)) listed writing (before ++ Takes e ∷ []) finds before [] e refl
      (of_right m h (entries_in m (after m h before)) (logs_rise m (after m h before)) listed before (start m h) both) now.2

  pub sights_here : EachEvent m h.objects (entries_in m (after m h before)) (SeesDirectory m h.objects (after m h before)) (after m h before) e
  sights_here =
      carried_more m h.objects (entries_in m (after m h before)) (Ready m h.objects (entries_in m (after m h before))) (Ready m h.objects (entries_in m (after m h before))) (SeesDirectory m h.objects (after m h before))
      (λ c v. (k : View m) → c.view ≡ Some k → IsTrueView m h.objects (entries_in m (after m h before)) k) (stays_true m h.objects (after m h before) listed)
      (λ c v i g f. ready_sees m h.objects (after m h before) listed c v i g) (after m h before) e
      (λ k v is. walks_true m h.objects (after m h before) listed (client m (after m h before) k) v (task_in m v.hand) (λ x has. ((now.0.clients k).view x has).so)) ready ready

pub sights_by_finds : (m : Meaning) → SightsByFinds m
sights_by_finds m h before e w r finds ends =
    subst (λ (v : World m). Reaches m h before v → FindSoFar m h before e v → AppendsEnd m h before v → EachEvent m h.objects (entries_in m v) (SeesDirectory m h.objects v) v e) (sym r.goes.is)
    (λ a b c. sights_here m h before e a b c) r finds ends
