-- The replay of a script with one command.
use Rattle.std.proofs.Common.{◌≡◌, ℕ, zero, suc, [], ◌∷◌, Some, None, refl, sym, subst, arith}
use Rattle.std.specs.Prelude.{true, ◌<◌, slice_get, slice_index_or, Contains}
use Rattle.std.specs.Fmt.{digits}
use Rattle.tg_base.specs.Clusters.{IsHeader}
use Rattle.tg_model.specs.declared.command.Command.TheVariants as cmd
use Rattle.tg_model.specs.declared.command.Event.TheVariants as event
use Rattle.tg_model.specs.declared.trace.What.TheVariants as told
use Rattle.tg_base.specs.Orders.{node_eq}
use Rattle.tg_protocol.specs.Units.{new_unit}
use Rattle.tg_protocol.specs.Clients.{new_client, tests, refusal}
use Rattle.tg_protocol.specs.ClientSteps.{client_asks, accepts, client_command}
use Rattle.tg_protocol.specs.Logs.{newest, log_of, entries_of, history_of}
use Rattle.tg_protocol.specs.Worlds.{client, start, latest, log, history, client_turned, happens, limit_of}
use Rattle.tg_protocol.specs.Runs.{Moves, Move, Next, Takes, LawfulMove, run, Reaches}
use Rattle.tg_protocol.specs.Headline.{Holds}
use Rattle.tg_trace.specs.Transcripts.{rendered, is_transcript}
use Rattle.tg_any.specs.AllKinds.{all_kinds}
use Rattle.tg_script.specs.declared.line.Line.{Line}
use Rattle.tg_replay.specs.Runs.{Worlds, IsLine, IsScript, IsWithin, Tells, MayCome, Replayed, front, lines_on, world_of}
use Rattle.tg_replay.specs.Runs as replays
use Rattle.tg_replay.specs.Headline.{IsReached, IsTrueRun, TrueReplay, told_in}
use Rattle.tg_law_texts.specs.Texts.{cluster, begin, begins, script, transcript_text}
use Rattle.tg_law_texts.proofs.Small.{some_same}
use Rattle.tg_law_texts.proofs.Begun.{IsBegun, begun_holds}

pub header : IsHeader cluster
header = refl

-- one move: the client begins a transaction
abbrev pub moves : Moves all_kinds
moves = Next ∷ Takes (event.Command 0 cmd.Begin) ∷ []

abbrev pub begun : Worlds
begun = run all_kinds moves (start all_kinds cluster)

-- The script.

pub is_line : IsLine cluster begin
unfolding digits
is_line = record { fits = refl; short = omega arith }

pub each_of_one : (P : Line → Type 0) → P begin → (k : ℕ) (l : Line) → slice_get (begin ∷ []) k ≡ Some l → P l
each_of_one P h zero l e = subst P (some_same begin l e) h
each_of_one P h (suc k) l e = absurd cc

comes : (k : ℕ) (l : Line) → slice_get (begin ∷ []) k ≡ Some l → MayCome (world_of (front k begins)) l
comes k l e = each_of_one (MayCome (world_of (front k begins))) tt k l e

pub lawful : IsScript begins
lawful = record { header = header; each = λ k l e. each_of_one (IsLine cluster) is_line k l e; comes = comes }

pub within : IsWithin begins
unfolding lines_on limit_of start happens client_turned
within = refl

pub world_is : world_of begins ≡ begun
unfolding lines_on limit_of start happens client_turned run
world_is = refl

pub tells : Tells script begins
unfolding digits
tells = refl

pub printed : transcript_text ≡ replays.transcript cluster begun
unfolding digits rendered run start happens client_turned client_command refusal tests accepts new_client client_asks history log latest newest log_of entries_of history_of new_unit node_eq
printed = refl

-- Its run.

lawful_moves : (x : Move all_kinds) → Contains moves x → LawfulMove all_kinds cluster x
lawful_moves x (k, less, e) = by k less e
  where
    by : (k : ℕ) → k < 2 → slice_index_or moves k x ≡ x → LawfulMove all_kinds cluster x
    by zero less e = subst (LawfulMove all_kinds cluster) e tt
    by (suc zero) less e = subst (LawfulMove all_kinds cluster) e (omega arith, tt)
    by (suc (suc k)) less e = absurd (omega (arith, less))

one_step : begun.steps ≡ 1
unfolding run start happens client_turned new_client
one_step = refl

pub reaches : Reaches all_kinds cluster moves begun
unfolding start
reaches = record { header = header; goes = record { lawful = lawful_moves; is = refl; few = omega (arith, one_step) } }

first_told : IsBegun all_kinds begun
unfolding run start happens client_turned client_command refusal tests accepts new_client client_asks history log latest newest log_of entries_of history_of new_unit node_eq
first_told = record {
  first = record { mark = record { event = 1; client = 0; tx = 1; what = told.Begin }; noted = record { next = 1; epoch = 1; upto = 0 } };
  only = refl;
  begins = refl;
  history = refl;
  entries = refl;
  views = views;
}
  where
    views : (k : ℕ) → (client all_kinds begun k).view ≡ None
    views zero = refl
    views (suc k) = refl

pub holds : Holds all_kinds begun
holds = begun_holds all_kinds begun first_told

pub reached : IsReached begins
reached = record { moves = moves; reaches = subst (Reaches all_kinds cluster moves) (sym world_is) reaches }

pub true_run : IsTrueRun begins
true_run = record { reached = reached; holds = subst (Holds all_kinds) (sym world_is) holds }

pub replayed : Replayed script transcript_text
replayed = record { script = begins; lawful = lawful; within = within; counted = omega arith; tells = tells; printed = printed_of }
  where
    printed_of : transcript_text ≡ replays.transcript cluster (world_of begins)
    printed_of = subst (λ (w : Worlds). transcript_text ≡ replays.transcript cluster w) (sym world_is) printed

pub true_replay : TrueReplay script transcript_text
unfolding replayed
true_replay = record { replayed = replayed; true_run = true_run }

pub fits : is_transcript (told_in cluster (world_of begins)) ≡ true
unfolding is_transcript digits lines_on limit_of start happens client_turned client_command refusal tests accepts new_client client_asks history log latest newest log_of entries_of history_of new_unit node_eq
fits = refl
