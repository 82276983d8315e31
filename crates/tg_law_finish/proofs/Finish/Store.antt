-- Commands of the store finish: all that the laws of settlings ask of a world is so in each run of the store.
use Rattle.std.proofs.Common.{◌≡◌, ◌⊎◌, ℕ, ◌+◌, ◌*◌, ◌<◌, ◌≤◌, [], length, Bool, true, false, refl, ap, ◌∙◌, sym, subst, inl, inr, arith, Some, Option}
use Rattle.std.specs.Prelude.{nat_lt}
use Rattle.std.proofs.lemmas.Bool.Decides.{nat_tests}
use Rattle.tg_base.specs.Clusters.{Header}
use Rattle.tg_any.specs.AllKinds.{all_kinds}
use Rattle.tg_kind.specs.Meaning.{Meaning}
use Rattle.tg_model.specs.declared.command.Command.TheVariants as cmd
use Rattle.tg_model.specs.Kinds.{CommandOf}
use Rattle.tg_base.specs.declared.cell.Cell.{Cell}
use Rattle.tg_protocol.specs.Words.{cell_at, too_far, unit_id}
use Rattle.tg_protocol.specs.Layouts.{chain_of}
use Rattle.tg_protocol.specs.Entries.{streams_of}
use Rattle.tg_protocol.specs.Appending.{Append, AppendWork, Asking, Putting, Judging, Token}
use Rattle.tg_protocol.specs.Clients.{Purpose, Writes, Judged, Decides, Rescues, Saves, Marks, Task, Syncing, Walking, Appending, Trimming, Copying', Reconfiguring, Hand, Doing, Work}
use Rattle.tg_protocol.specs.ClientSteps.{task_in}
use Rattle.tg_protocol.specs.Worlds.{World, unit, seqr, client, latest, runs}
use Rattle.tg_protocol.specs.Runs.{Moves, Goes, Reaches, Always, run}
use Rattle.tg_protocol.specs.Finishing.{longest_chain, IsServing, IsReadyFor, IsSpareReady, NoReconf, most_deliveries_in}
use Rattle.tg_law_layouts.specs.Moves.After.{after}
use Rattle.tg_law_layouts.proofs.Moves.Lists.{contained}
use Rattle.tg_law_layouts.proofs.Moves.Members.{has_contained}
use Rattle.tg_law_layouts.proofs.Layouts.Deciding.{latest_decided}
use Rattle.tg_law_cells.specs.Cells.Settled.{IsSettled}
use Rattle.tg_law_cells.proofs.Cells.Befores.{has_at}
use Rattle.tg_law_cells.proofs.Cells.Settling.{settled_is_held}
use Rattle.tg_law_headline.specs.Issues.Issues.{TrimsInTime}
use Rattle.tg_law_headline.specs.Trims.Spare.{TrimsAre}
use Rattle.tg_law_headline.proofs.Runs.Holding.{logs_hold}
use Rattle.tg_law_finish.specs.Finish.Alone.{IsAlone}
use Rattle.tg_law_finish.specs.Finish.Anywhere.{HasTask, CommandWalks, CalmCommand, FewStreams, LongCommand}
use Rattle.tg_law_finish.specs.Finish.Appends.{is_last, WaitsForAppend}
use Rattle.tg_law_finish.specs.Finish.Commands.{is_ask, plays}
use Rattle.tg_law_finish.specs.Finish.Copies.{CopyFinishes}
use Rattle.tg_law_finish.specs.Finish.Granted.{Granted}
use Rattle.tg_law_finish.proofs.Finish.AtWork.{ready_clients_work}
use Rattle.tg_law_finish.proofs.Finish.Answered.{within, same_command, record_below, record_walks, append_answered, append_in_time, ask_calm, make_calm, few_streams, Allows, most, allows_all, allows_few, allows_calm, of_trim, walks_few, in_bound, ask_walks, make_walks, rescue_walks, token_below, end_walks, trim_walks, units_trim, task_below, copy_walks}
use Rattle.tg_law_finish.proofs.Finish.Standing.{next_near, limit_below, working}
use Rattle.tg_law_finish.specs.Finish.Laws.{IsAnswered}
use Rattle.tg_law_finish.specs.Finish.Makes.{makes, MakeFinishes}
use Rattle.tg_law_finish.specs.Finish.Store.{AppendsLast, AppendFinishes, AskFinishes}
use Rattle.tg_law_finish.specs.Finish.Ends.{EndsAppend, EndFinishes, EndsRecord, record_bound, RecordFinishes}
use Rattle.tg_law_finish.specs.Finish.Reads.{IsRead, WaitsForRead}
use Rattle.tg_law_finish.specs.Finish.Rescues.{is_rescue, RescueWalks}
use Rattle.tg_law_finish.specs.Finish.Trims.{IsTrim, trim_bound, TrimFinishes}
use Rattle.tg_law_finish.specs.Finish.Walks.{floors, passes_bound, walk_bound, streams, AskWalks, MakeWalks}
use Rattle.tg_law_finish.proofs.Finish.Waited.{pays_less}
use Rattle.tg_law_finish.proofs.Finish.Asking.{HeldWhereTrimmed, Grows, Owns, TokenStands, TaskStands}
use Rattle.tg_law_finish.proofs.Finish.Below.{greatest, past, trimmed_settled, lows_below, unwritten_past}
use Rattle.tg_law_finish.proofs.Finish.Brought.{CopyShape, OfCommand}
use Rattle.tg_law_finish.proofs.Finish.Working.{Working, at_chain}
use Rattle.tg_law_finish.proofs.Finish.Named.{named, grown_named, grown_below}
use Rattle.tg_law_finish.proofs.Finish.Drafted.{drafted}
use Rattle.tg_law_finish.proofs.Finish.Hosting.{hosting}
use Rattle.tg_law_finish.proofs.Finish.Hands.{append_stands, HasToken, token_stands, trims_stand, reads_stand, copy_shape, copy_stands}
use Rattle.tg_law_finish.proofs.Finish.Suiting.{Suits, WorkSuits, no_reconf, purpose_plays, all_suit}

nearer : (a b : ℕ) → a ≤ b → too_far b ≡ false → too_far a ≡ false
nearer a b le e = grind (arith, nat_tests, le, e)

module _ (m : Meaning) where
  -- in whatever world a run comes to, trims are in time
  abbrev Timely : Header → Type 0
  Timely h = (ms : Moves m) (v : World m) → Reaches m h ms v → TrimsInTime m v

  -- and they leave what is needed
  abbrev AllTrims : Header → Type 0
  AllTrims h = (ms : Moves m) (v : World m) → Reaches m h ms v → TrimsAre m h ms v

  nothing_more : (h : Header) (zs : Moves m) → Reaches m h zs (after m h zs) → Goes m (after m h zs) [] (after m h zs)
  unfolding run
  nothing_more h zs r = record { lawful = λ x c. absurd (has_contained [] x c); is = refl; few = r.goes.few }

  module _ (h : Header) (zs : Moves m) (r : Reaches m h zs (after m h zs)) (trims : TrimsAre m h zs (after m h zs)) (k : ℕ) (x : CommandOf m) (a : IsAlone m (after m h zs) k x) (b : IsReadyFor m (after m h zs) k) where
    abbrev w : World m
    w = after m h zs

    granted : Granted m (after m h zs)
    granted = record {
      lows = λ u. nearer _ _ (lows_below m h zs r b.serves trims.in_time trims.were.safe u) (next_near m h zs w r);
      named = named m h zs r trims.were b.serves (next_near m h zs w r);
      trims = trims.in_time;
    }

    suits : (v : Work m) (t : Task m) → (client m (after m h zs) k).work ≡ Some v → v.hand ≡ Doing t → Suits m v.command t
    suits v t has hand = subst (λ (d : Hand m). Suits m v.command (task_in m d)) hand (subst (λ (o : Option (Work m)). WorkSuits m o) has (all_suit m h zs (after m h zs) r k))

    waits : AppendsLast m (after m h zs) k → WaitsForAppend m (after m h zs) k
    waits f = record {
      work = f.work;
      waits = f.waits;
      command = purpose_plays m f.work.command f.purpose (suits f.work (Appending f.append f.purpose) f.waits f.hand);
      append = f.append;
      purpose = f.purpose;
      hand = f.hand;
      last = f.last;
      stands = append_stands m h zs r trims k (working m h zs w r k x a b) b.serves f.work f.append f.purpose f.waits f.hand;
    }

  append_here : (h : Header) (zs : Moves m) → Reaches m h zs (after m h zs) → TrimsAre m h zs (after m h zs) → AppendFinishes m (after m h zs)
  append_here h zs r trims k x a b f =
      let g = granted h zs r trims k x a b in
      let i = waits h zs r trims k x a b f in
      (append_answered m h zs (after m h zs) r k x a b g i, append_in_time m h zs (after m h zs) r k x a b g i)

  -- what a unit of the latest layout's chains has trimmed is settled, so the others have it, or have trimmed it
  held_here : (h : Header) (zs : Moves m) (r : Reaches m h zs (after m h zs)) → TrimsAre m h zs (after m h zs) → IsServing (seqr m (after m h zs) (latest m (after m h zs)).seq) (latest m (after m h zs)).epoch
      → HeldWhereTrimmed m (after m h zs) (latest m (after m h zs))
  held_here h zs r trims serves pos j less low = by (trimmed_settled m h zs r serves trims.in_time trims.were.safe (at_chain m (latest m (after m h zs)) pos j) pos (is_below _ _ low))
    where
      is_below : (a b : ℕ) → nat_lt a b ≡ true → a < b
      is_below a b e = grind arith

      is_less : (a b : ℕ) → a < b → nat_lt a b ≡ true
      is_less a b less = grind arith

      no_more : Goes m (after m h zs) [] (after m h zs)
      no_more = nothing_more h zs r

      by : (c : Cell) × IsSettled m (after m h zs) pos c
          → (c : Cell) × ((i : ℕ) → i < length (chain_of (latest m (after m h zs)) pos) → (cell_at (unit m (after m h zs) (at_chain m (latest m (after m h zs)) pos i)).cells pos ≡ Some c) ⊎ (nat_lt pos (unit m (after m h zs) (at_chain m (latest m (after m h zs)) pos i)).low ≡ true))
      by g = (
        g.0,
        λ i here. of i (settled_is_held m h zs (after m h zs) (after m h zs) r ([], no_more) pos g.0 g.1 (latest m (after m h zs)) (at_chain m (latest m (after m h zs)) pos i)
            (record { decided = (latest_decided m h zs (after m h zs) r).decided; later = greatest m h zs r g.1.layout g.1.decided; here = contained (chain_of (latest m (after m h zs)) pos) _ (has_at (chain_of (latest m (after m h zs)) pos) i here) })),
      )
        where
          of : (i : ℕ) → (cell_at (unit m (after m h zs) (at_chain m (latest m (after m h zs)) pos i)).cells pos ≡ Some g.0) ⊎ (pos < (unit m (after m h zs) (at_chain m (latest m (after m h zs)) pos i)).low)
              → (cell_at (unit m (after m h zs) (at_chain m (latest m (after m h zs)) pos i)).cells pos ≡ Some g.0) ⊎ (nat_lt pos (unit m (after m h zs) (at_chain m (latest m (after m h zs)) pos i)).low ≡ true)
          of i (inl e) = inl e
          of i (inr e) = inr (is_less _ _ e)

  -- where its sync or its walk stands
  stands_here : (h : Header) (zs : Moves m) (r : Reaches m h zs (after m h zs)) → TrimsAre m h zs (after m h zs) → (k : ℕ) (x : CommandOf m) → IsAlone m (after m h zs) k x → IsReadyFor m (after m h zs) k → (f : WaitsForRead m (after m h zs) k)
      → TaskStands m (after m h zs) (latest m (after m h zs)) f.work f.task
  stands_here h zs r trims k x a b f = reads_stand m h zs r trims k (working m h zs (after m h zs) r k x a b) b.serves f.work f.task f.waits f.hand f.reads

  ask_walks_here : (h : Header) (zs : Moves m) → Reaches m h zs (after m h zs) → TrimsAre m h zs (after m h zs) → AskWalks m (after m h zs)
  ask_walks_here h zs r trims k x a b is f = ask_walks m h zs (after m h zs) r k x a b (granted h zs r trims k x a b) (held_here h zs r trims b.serves) is f (stands_here h zs r trims k x a b f)

  make_walks_here : (h : Header) (zs : Moves m) → Reaches m h zs (after m h zs) → TrimsAre m h zs (after m h zs) → MakeWalks m (after m h zs)
  make_walks_here h zs r trims k x a b is f = make_walks m h zs (after m h zs) r k x a b (granted h zs r trims k x a b) (held_here h zs r trims b.serves) is f (stands_here h zs r trims k x a b f)

  -- nothing is trimmed
  ask_here : (h : Header) (zs : Moves m) → Reaches m h zs (after m h zs) → TrimsAre m h zs (after m h zs) → AskFinishes m (after m h zs)
  ask_here h zs r trims k x a b u is f =
      ask_calm m h zs (after m h zs) r k x a b (granted h zs r trims k x a b) u f (stands_here h zs r trims k x a b f) (subst (λ (y : CommandOf m). is_ask m y ≡ true) (same_command m h zs (after m h zs) r k x a f.work f.waits) is)

  make_here : (h : Header) (zs : Moves m) → Reaches m h zs (after m h zs) → TrimsAre m h zs (after m h zs) → MakeFinishes m (after m h zs)
  make_here h zs r trims k x a b u is f =
      make_calm m h zs (after m h zs) r k x a b (granted h zs r trims k x a b) u f (stands_here h zs r trims k x a b f) (subst (λ (y : CommandOf m). makes m y ≡ true) (same_command m h zs (after m h zs) r k x a f.work f.waits) is)

  rescue_walks_here : (h : Header) (zs : Moves m) → Reaches m h zs (after m h zs) → TrimsAre m h zs (after m h zs) → RescueWalks m (after m h zs)
  rescue_walks_here h zs r trims k x a b is f = rescue_walks m h zs (after m h zs) r k x a b (granted h zs r trims k x a b) (held_here h zs r trims b.serves) is f (stands_here h zs r trims k x a b f)

  -- what is issued next to the streams of a draft in hand
  grows_here : (h : Header) (zs : Moves m) (r : Reaches m h zs (after m h zs)) → TrimsAre m h zs (after m h zs) → (k : ℕ) (x : CommandOf m) → IsAlone m (after m h zs) k x → IsReadyFor m (after m h zs) k → (v : Work m) (a : Append) (y : Purpose m)
      → (client m (after m h zs) k).work ≡ Some v → v.hand ≡ Doing (Appending a y) → Grows m (after m h zs) (latest m (after m h zs)) a.draft
  grows_here h zs r trims k x alone b v a y has hand =
      let q = latest m (after m h zs) in
      let once = drafted m h zs r k v a y has hand in
      record {
        limit = limit_below m h zs (after m h zs) r;
        ahead = λ pos j from less. unwritten_past m h zs r b.serves trims.in_time (at_chain m q pos j) pos from (contained (chain_of q pos) _ (has_at (chain_of q pos) j less)) ((working m h zs (after m h zs) r k x alone b).units_stand pos j less);
        named = λ near ts. grown_named m h zs r trims.were b.serves (streams_of a.draft) once near ts;
        lasts = λ o ts. grown_below m h zs r trims.were b.serves (streams_of a.draft) once o ts;
      }

  -- the record of a transaction that is ended asks for its token
  owns_here : (h : Header) (zs : Moves m) (r : Reaches m h zs (after m h zs)) → TrimsAre m h zs (after m h zs) → (k : ℕ) (x : CommandOf m) → IsAlone m (after m h zs) k x → IsReadyFor m (after m h zs) k → EndsAppend m (after m h zs) k
      → Owns m (after m h zs) k (latest m (after m h zs))
  owns_here h zs r trims k x a b f = record {
    work = f.work;
    waits = f.waits;
    command = f.command;
    append = f.append;
    rid = f.rid;
    hand = f.hand;
    first = f.first;
    below = token_below m h zs (after m h zs) r k f;
    hosted = (hosting m h zs (after m h zs) r k).hosted;
    grows = grows_here h zs r trims k x a b f.work f.append Judged f.waits f.hand;
  }

  end_here : (h : Header) (zs : Moves m) → Reaches m h zs (after m h zs) → TrimsAre m h zs (after m h zs) → EndFinishes m (after m h zs)
  end_here h zs r trims k x a b f = end_walks m h zs (after m h zs) r k x a b (granted h zs r trims k x a b) (held_here h zs r trims b.serves) (owns_here h zs r trims k x a b f)

  -- its record is being appended

  held_here_by : (h : Header) (zs : Moves m) (r : Reaches m h zs (after m h zs)) → TrimsAre m h zs (after m h zs) → (k : ℕ) (x : CommandOf m) → IsAlone m (after m h zs) k x → IsReadyFor m (after m h zs) k → (f : EndsRecord m (after m h zs) k) → f.work.command ≡ cmd.End
      → (t : Token) → f.append.token ≡ Some t → TokenStands m (after m h zs) (latest m (after m h zs)) f.append.work → IsAnswered m (after m h zs) k (record_bound m (after m h zs)) × IsAnswered m (after m h zs) k (most_deliveries_in m (after m h zs) x + passes_bound m (after m h zs) 128)
  held_here_by h zs r trims k x a b f command t has stands = record_walks m h zs (after m h zs) r k x a b (granted h zs r trims k x a b) (held_here h zs r trims b.serves) (record {
    work = f.work;
    waits = f.waits;
    command = command;
    append = f.append;
    hand = f.hand;
    token = t;
    has = has;
    stands = stands;
    below = record_below m h zs (after m h zs) r k b.stand f.work f.append f.waits f.hand;
    hosted = (hosting m h zs (after m h zs) r k).hosted;
    grows = grows_here h zs r trims k x a b f.work f.append Judged f.waits f.hand;
  })

  record_here : (h : Header) (zs : Moves m) → Reaches m h zs (after m h zs) → TrimsAre m h zs (after m h zs) → RecordFinishes m (after m h zs)
  record_here h zs r trims k x a b f = by f.append.work refl (token_stands m h zs r trims k (working m h zs (after m h zs) r k x a b) b.serves f.work f.append Judged f.waits f.hand)
    where
      command : f.work.command ≡ cmd.End
      command = suits h zs r trims k x a b f.work (Appending f.append Judged) f.waits f.hand

      more : (n c : ℕ) → n + 6 * c ≤ n + 8 * c
      more n c = omega arith

      by : (y : AppendWork) → f.append.work ≡ y → HasToken m h zs r trims k (working m h zs (after m h zs) r k x a b) b.serves f.append y
          → IsAnswered m (after m h zs) k (record_bound m (after m h zs)) × IsAnswered m (after m h zs) k (most_deliveries_in m (after m h zs) x + passes_bound m (after m h zs) 128)
      by (Asking j) is g =
          let e = end_here h zs r trims k x a b (record { work = f.work; waits = f.waits; command = command; append = f.append; rid = j; hand = f.hand; first = is }) in
          (within m k _ _ (after m h zs) _ (more _ (longest_chain (latest m (after m h zs)) + 1)) e.0, e.1)
      by (Putting j) is g = held_here_by h zs r trims k x a b f command g.0 g.1 (subst (λ (y : AppendWork). TokenStands m (after m h zs) (latest m (after m h zs)) y) (sym is) g.2)
      by (Judging j) is g = held_here_by h zs r trims k x a b f command g.0 g.1 (subst (λ (y : AppendWork). TokenStands m (after m h zs) (latest m (after m h zs)) y) (sym is) g.2)

  -- A trim.

  trim_here : (h : Header) (zs : Moves m) → Reaches m h zs (after m h zs) → TrimsAre m h zs (after m h zs) → Timely h → TrimFinishes m (after m h zs)
  trim_here h zs r trims in_time k x a b f = by f.task f.hand f.trims
    where
      Ends' : Type 0
      Ends' = IsAnswered m (after m h zs) k (trim_bound m (after m h zs) (streams m f.work)) × IsAnswered m (after m h zs) k (most_deliveries_in m (after m h zs) x + passes_bound m (after m h zs) 128)

      reads : (t : Task m) → f.work.hand ≡ Doing t → IsRead m t → Ends'
      reads t hand is =
          let g : WaitsForRead m (after m h zs) k = record { work = f.work; waits = f.waits; task = t; hand = hand; reads = is } in
          trim_walks m h zs (after m h zs) r k in_time x a b (granted h zs r trims k x a b) (held_here h zs r trims b.serves) g (stands_here h zs r trims k x a b g) f.command

      by : (t : Task m) → f.work.hand ≡ Doing t → IsTrim m t → Ends'
      by (Syncing y) hand is = reads (Syncing y) hand tt
      by (Walking y os) hand is = reads (Walking y os) hand tt
      by (Trimming y) hand is = units_trim m h zs (after m h zs) r k in_time x a b (granted h zs r trims k x a b) (held_here h zs r trims b.serves) f.work y f.waits hand
          (trims_stand m h zs r trims k (working m h zs (after m h zs) r k x a b) b.serves f.work y f.waits hand) f.command
      by (Appending y z) hand is = absurd is
      by (Copying' y) hand is = absurd is
      by (Reconfiguring y) hand is = absurd is

  -- A copy.

  copy_here : (h : Header) (zs : Moves m) → Reaches m h zs (after m h zs) → TrimsAre m h zs (after m h zs) → AllTrims h → CopyFinishes m (after m h zs)
  copy_here h zs r trims all k x a b spare f = copy_walks m h zs (after m h zs) r k all x a b (granted h zs r trims k x a b) (held_here h zs r trims b.serves) (past m h zs r b.serves) (record {
    work = f.work;
    waits = f.waits;
    copying = f.copying;
    hand = f.hand;
    fault = shape.0.fault;
    stands = copy_stands m h zs r trims k ready b.serves f.work f.copying f.waits f.hand;
    since = shape.0.since;
    running = running.0;
    upto = running.1;
    below = λ o g. task_below m h zs (after m h zs) r k b.stand f.work (Copying' f.copying) f.waits f.hand o g;
  })
    where
      ready : Working m (after m h zs) k (latest m (after m h zs))
      ready = working m h zs (after m h zs) r k x a b

      shape : CopyShape m (λ u. (unit m (after m h zs) u).epoch) (latest m (after m h zs)) f.copying × OfCommand m f.work.command f.copying
      shape = copy_shape m h zs r trims k (working m h zs (after m h zs) r k x a b) b.serves f.work f.copying f.waits f.hand

      -- the spare of the command
      running : (runs m (after m h zs) (unit_id f.copying.unit) ≡ true) × ((unit m (after m h zs) f.copying.unit).epoch ≤ (latest m (after m h zs)).epoch)
      running = subst (λ (y : CommandOf m). IsSpareReady m (after m h zs) y) (same_command m h zs (after m h zs) r k x a f.work f.waits ∙ (copy_shape m h zs r trims k (working m h zs (after m h zs) r k x a b) b.serves f.work f.copying f.waits f.hand).1) spare

  -- A command wherever it stands.

  is_one : (x : CommandOf m) → plays m x ≡ true → (is_ask m x ≡ true) ⊎ ((makes m x ≡ true) ⊎ ((is_rescue m x ≡ true) ⊎ (x ≡ cmd.Trim)))
  unfolding plays is_ask makes is_rescue
  is_one (cmd.Ask o q) e = inl refl
  is_one (cmd.Fate p) e = inl refl
  is_one (cmd.AskAt p o q) e = inl refl
  is_one cmd.End e = inr (inl refl)
  is_one (cmd.Decide p) e = inr (inl refl)
  is_one (cmd.Checkpoint o) e = inr (inl refl)
  is_one (cmd.Forget o n) e = inr (inl refl)
  is_one (cmd.Rescue p) e = inr (inr (inl refl))
  is_one cmd.Trim e = inr (inr (inr refl))
  is_one (cmd.Host o) e = absurd cc
  is_one cmd.Begin e = absurd cc
  is_one (cmd.Put o op) e = absurd cc
  is_one cmd.Drop e = absurd cc
  is_one (cmd.Reconf y) e = absurd cc
  is_one (cmd.Copy u y s) e = absurd cc

  judged_or_last : (y : Purpose m) → (y ≡ Judged) ⊎ (is_last m y ≡ true)
  unfolding is_last
  judged_or_last Judged = inl refl
  judged_or_last Writes = inr refl
  judged_or_last (Decides what) = inr refl
  judged_or_last (Rescues what) = inr refl
  judged_or_last (Saves o upto) = inr refl
  judged_or_last (Marks n o mark) = inr refl

  is_trim : (t : Task m) → IsRead m t → IsTrim m t
  is_trim (Syncing y) is = tt
  is_trim (Walking y os) is = tt
  is_trim (Appending y z) is = absurd is
  is_trim (Trimming y) is = absurd is
  is_trim (Copying' y) is = absurd is
  is_trim (Reconfiguring y) is = absurd is

  -- with a task in hand
  works_here : (h : Header) (zs : Moves m) (r : Reaches m h zs (after m h zs)) → TrimsAre m h zs (after m h zs) → AllTrims h → (k : ℕ) (x : CommandOf m) (most : ℕ) → IsAlone m (after m h zs) k x → IsReadyFor m (after m h zs) k → IsSpareReady m (after m h zs) x → NoReconf m x
      → Allows m h zs (after m h zs) r k x most → HasTask m (after m h zs) k → IsAnswered m (after m h zs) k most
  works_here h zs r trims all k x most a b spare such room f = by f.task f.hand (subst (λ (y : CommandOf m). Suits m y f.task) (sym (same_command m h zs (after m h zs) r k x a f.work f.waits)) (suits h zs r trims k x a b f.work f.task f.waits f.hand))
    where
      -- its walks are over 128 streams at most
      streams_few : (v : Work m) → (client m (after m h zs) k).work ≡ Some v → passes_bound m (after m h zs) (streams m v) ≤ passes_bound m (after m h zs) 128
      streams_few v has = pays_less (longest_chain (latest m (after m h zs))) (streams m v) 128 (floors m (after m h zs)) (few_streams m h zs (after m h zs) r k v has)

      trims' : x ≡ cmd.Trim → (v : Work m) (t : Task m) → (client m (after m h zs) k).work ≡ Some v → v.hand ≡ Doing t → IsTrim m t → IsAnswered m (after m h zs) k most
      trims' is v t has hand fits =
          let few = streams_few v has in
          let le = room.trims is in
          within m k _ _ (after m h zs) _ (omega (arith, few, le))
          (trim_here h zs r trims (λ ms v s. (all ms v s).in_time) k x a b (record { work = v; waits = has; command = sym (same_command m h zs (after m h zs) r k x a v has) ∙ is; task = t; hand = hand; trims = fits })).0

      reads : plays m x ≡ true → WaitsForRead m (after m h zs) k → IsAnswered m (after m h zs) k most
      reads play g = of (is_one x play)
        where
          of : (is_ask m x ≡ true) ⊎ ((makes m x ≡ true) ⊎ ((is_rescue m x ≡ true) ⊎ (x ≡ cmd.Trim))) → IsAnswered m (after m h zs) k most
          of (inl e) = let few = streams_few g.work g.waits in let le = room.walks in within m k _ _ (after m h zs) _ (omega (arith, few, le)) (ask_walks_here h zs r trims k x a b e g).0
          of (inr (inl e)) = let few = streams_few g.work g.waits in let le = room.walks in within m k _ _ (after m h zs) _ (omega (arith, few, le)) (make_walks_here h zs r trims k x a b e g).0
          of (inr (inr (inl e))) = within m k _ _ (after m h zs) _ (room.rescues e (streams m g.work)) (rescue_walks_here h zs r trims k x a b e g).0
          of (inr (inr (inr e))) = trims' e g.work g.task g.waits g.hand (is_trim g.task g.reads)

      appends : (y : Append) (z : Purpose m) → f.work.hand ≡ Doing (Appending y z) → (z ≡ Judged) ⊎ (is_last m z ≡ true) → IsAnswered m (after m h zs) k most
      appends y z e (inl is) = within m k _ _ (after m h zs) _ room.walks (record_here h zs r trims k x a b (record { work = f.work; waits = f.waits; append = y; hand = e ∙ ap (λ (i : Purpose m). Doing (Appending y i)) is })).0
      appends y z e (inr is) = within m k _ _ (after m h zs) _ room.appends (append_here h zs r trims k x a b (record { work = f.work; waits = f.waits; append = y; purpose = z; hand = e; last = is })).0

      by : (t : Task m) → f.work.hand ≡ Doing t → Suits m x t → IsAnswered m (after m h zs) k most
      by (Syncing s) e fits = reads fits (record { work = f.work; waits = f.waits; task = Syncing s; hand = e; reads = tt })
      by (Walking y os) e fits = reads fits (record { work = f.work; waits = f.waits; task = Walking y os; hand = e; reads = tt })
      by (Appending y z) e fits = appends y z e (judged_or_last z)
      by (Trimming y) e fits = trims' fits f.work (Trimming y) f.waits e tt
      by (Copying' y) e fits = within m k _ _ (after m h zs) _ room.copies (copy_here h zs r trims all k x a b spare (record { work = f.work; waits = f.waits; copying = y; hand = e })).0
      by (Reconfiguring y) e fits = absurd (no_reconf m x such fits)

  -- within whatever bound allows as much
  allowed : (h : Header) (zs : Moves m) (r : Reaches m h zs (after m h zs)) → TrimsAre m h zs (after m h zs) → AllTrims h → (k : ℕ) (x : CommandOf m) (most : ℕ) → IsAlone m (after m h zs) k x → IsReadyFor m (after m h zs) k → IsSpareReady m (after m h zs) x → NoReconf m x
      → (Granted m (after m h zs) → Allows m h zs (after m h zs) r k x most) → IsAnswered m (after m h zs) k most
  allowed h zs r trims all k x most a b spare such room = works_here h zs r trims all k x most a b spare such (room (granted h zs r trims k x a b))
      (ready_clients_work m h zs (after m h zs) r k a.work a.waits b (subst (λ (y : CommandOf m). IsSpareReady m (after m h zs) y) (sym a.command) spare) (subst (λ (y : CommandOf m). NoReconf m y) (sym a.command) such))

  command_here : (h : Header) (zs : Moves m) → Reaches m h zs (after m h zs) → TrimsAre m h zs (after m h zs) → AllTrims h → CommandWalks m (after m h zs)
  command_here h zs r trims all k x a b spare such = allowed h zs r trims all k x _ a b spare such (allows_all m h zs (after m h zs) r k x a b)

  calm_here : (h : Header) (zs : Moves m) → Reaches m h zs (after m h zs) → TrimsAre m h zs (after m h zs) → AllTrims h → CalmCommand m (after m h zs)
  calm_here h zs r trims all k x a b spare such u = allowed h zs r trims all k x _ a b spare such (λ g. allows_calm m h zs (after m h zs) r k x a b g u)

  few_here : (h : Header) (zs : Moves m) → Reaches m h zs (after m h zs) → TrimsAre m h zs (after m h zs) → Timely h → FewStreams m (after m h zs)
  few_here h zs r trims in_time k x a b play other f few = of (is_one x play)
    where
      true_not : (c : Bool) → c ≡ true → c ≡ false → ⊥
      true_not c e g = grind (arith, e, g)

      room : walk_bound m (after m h zs) (streams m f.work) + 2 * (longest_chain (latest m (after m h zs)) + 1) ≤ most m h zs (after m h zs) r k
      room = walks_few m h zs (after m h zs) r k x a b (granted h zs r trims k x a b) (streams m f.work) few

      bound : most m h zs (after m h zs) r k ≤ most_deliveries_in m (after m h zs) x
      bound = in_bound m h zs (after m h zs) r k x

      trims' : x ≡ cmd.Trim → IsAnswered m (after m h zs) k (most_deliveries_in m (after m h zs) x)
      trims' is =
          let up = of_trim m h zs (after m h zs) r k x is in
          within m k _ _ (after m h zs) _ (omega (arith, room, up))
          (trim_here h zs r trims in_time k x a b (record { work = f.work; waits = f.waits; command = sym (same_command m h zs (after m h zs) r k x a f.work f.waits) ∙ is; task = f.task; hand = f.hand; trims = is_trim f.task f.reads })).0

      of : (is_ask m x ≡ true) ⊎ ((makes m x ≡ true) ⊎ ((is_rescue m x ≡ true) ⊎ (x ≡ cmd.Trim))) → IsAnswered m (after m h zs) k (most_deliveries_in m (after m h zs) x)
      of (inl e) = within m k _ _ (after m h zs) _ (omega (arith, room, bound)) (ask_walks_here h zs r trims k x a b e f).0
      of (inr (inl e)) = within m k _ _ (after m h zs) _ (omega (arith, room, bound)) (make_walks_here h zs r trims k x a b e f).0
      of (inr (inr (inl e))) = absurd (true_not (is_rescue m x) e other)
      of (inr (inr (inr e))) = trims' e

  long_here : (h : Header) (zs : Moves m) → Reaches m h zs (after m h zs) → TrimsAre m h zs (after m h zs) → AllTrims h → LongCommand m (after m h zs)
  long_here h zs r trims all k x a b spare such long = allowed h zs r trims all k x _ a b spare such (λ g. allows_few m h zs (after m h zs) r k x a b g (inr long))

  -- over any kinds, where trims left what is needed
  pub append_where : (h : Header) (zs : Moves m) (w : World m) → Reaches m h zs w → TrimsAre m h zs w → AppendFinishes m w
  append_where h zs w r trims = subst (λ (v : World m). Reaches m h zs v → TrimsAre m h zs v → AppendFinishes m v) (sym r.goes.is) (append_here h zs) r trims

  pub ask_where : (h : Header) (zs : Moves m) (w : World m) → Reaches m h zs w → TrimsAre m h zs w → AskFinishes m w
  ask_where h zs w r trims = subst (λ (v : World m). Reaches m h zs v → TrimsAre m h zs v → AskFinishes m v) (sym r.goes.is) (ask_here h zs) r trims

  pub make_where : (h : Header) (zs : Moves m) (w : World m) → Reaches m h zs w → TrimsAre m h zs w → MakeFinishes m w
  make_where h zs w r trims = subst (λ (v : World m). Reaches m h zs v → TrimsAre m h zs v → MakeFinishes m v) (sym r.goes.is) (make_here h zs) r trims

  pub ask_walks_where : (h : Header) (zs : Moves m) (w : World m) → Reaches m h zs w → TrimsAre m h zs w → AskWalks m w
  ask_walks_where h zs w r trims = subst (λ (v : World m). Reaches m h zs v → TrimsAre m h zs v → AskWalks m v) (sym r.goes.is) (ask_walks_here h zs) r trims

  pub make_walks_where : (h : Header) (zs : Moves m) (w : World m) → Reaches m h zs w → TrimsAre m h zs w → MakeWalks m w
  make_walks_where h zs w r trims = subst (λ (v : World m). Reaches m h zs v → TrimsAre m h zs v → MakeWalks m v) (sym r.goes.is) (make_walks_here h zs) r trims

  pub rescue_walks_where : (h : Header) (zs : Moves m) (w : World m) → Reaches m h zs w → TrimsAre m h zs w → RescueWalks m w
  rescue_walks_where h zs w r trims = subst (λ (v : World m). Reaches m h zs v → TrimsAre m h zs v → RescueWalks m v) (sym r.goes.is) (rescue_walks_here h zs) r trims

  pub end_where : (h : Header) (zs : Moves m) (w : World m) → Reaches m h zs w → TrimsAre m h zs w → EndFinishes m w
  end_where h zs w r trims = subst (λ (v : World m). Reaches m h zs v → TrimsAre m h zs v → EndFinishes m v) (sym r.goes.is) (end_here h zs) r trims

  pub record_where : (h : Header) (zs : Moves m) (w : World m) → Reaches m h zs w → TrimsAre m h zs w → RecordFinishes m w
  record_where h zs w r trims = subst (λ (v : World m). Reaches m h zs v → TrimsAre m h zs v → RecordFinishes m v) (sym r.goes.is) (record_here h zs) r trims

  pub trim_where : (h : Header) (zs : Moves m) (w : World m) → Reaches m h zs w → TrimsAre m h zs w → Timely h → TrimFinishes m w
  trim_where h zs w r trims in_time = subst (λ (v : World m). Reaches m h zs v → TrimsAre m h zs v → TrimFinishes m v) (sym r.goes.is) (λ a b. trim_here h zs a b in_time) r trims

  pub copy_where : (h : Header) (zs : Moves m) (w : World m) → Reaches m h zs w → TrimsAre m h zs w → AllTrims h → CopyFinishes m w
  copy_where h zs w r trims all = subst (λ (v : World m). Reaches m h zs v → TrimsAre m h zs v → CopyFinishes m v) (sym r.goes.is) (λ a b. copy_here h zs a b all) r trims

  pub command_where : (h : Header) (zs : Moves m) (w : World m) → Reaches m h zs w → TrimsAre m h zs w → AllTrims h → CommandWalks m w
  command_where h zs w r trims all = subst (λ (v : World m). Reaches m h zs v → TrimsAre m h zs v → CommandWalks m v) (sym r.goes.is) (λ a b. command_here h zs a b all) r trims

  pub calm_where : (h : Header) (zs : Moves m) (w : World m) → Reaches m h zs w → TrimsAre m h zs w → AllTrims h → CalmCommand m w
  calm_where h zs w r trims all = subst (λ (v : World m). Reaches m h zs v → TrimsAre m h zs v → CalmCommand m v) (sym r.goes.is) (λ a b. calm_here h zs a b all) r trims

  pub long_where : (h : Header) (zs : Moves m) (w : World m) → Reaches m h zs w → TrimsAre m h zs w → AllTrims h → LongCommand m w
  long_where h zs w r trims all = subst (λ (v : World m). Reaches m h zs v → TrimsAre m h zs v → LongCommand m v) (sym r.goes.is) (λ a b. long_here h zs a b all) r trims

  pub few_where : (h : Header) (zs : Moves m) (w : World m) → Reaches m h zs w → TrimsAre m h zs w → Timely h → FewStreams m w
  few_where h zs w r trims in_time = subst (λ (v : World m). Reaches m h zs v → TrimsAre m h zs v → FewStreams m v) (sym r.goes.is) (λ a b. few_here h zs a b in_time) r trims

pub few_streams_finish : Always all_kinds (FewStreams all_kinds)
few_streams_finish h zs w r = few_where all_kinds h zs w r (logs_hold h zs w r).trims (λ ms v s. (logs_hold h ms v s).trims.in_time)

pub calm_commands_finish : Always all_kinds (CalmCommand all_kinds)
calm_commands_finish h zs w r = calm_where all_kinds h zs w r (logs_hold h zs w r).trims (λ ms v s. (logs_hold h ms v s).trims)

pub long_commands_finish : Always all_kinds (LongCommand all_kinds)
long_commands_finish h zs w r = long_where all_kinds h zs w r (logs_hold h zs w r).trims (λ ms v s. (logs_hold h ms v s).trims)

pub commands_finish : Always all_kinds (CommandWalks all_kinds)
commands_finish h zs w r = command_where all_kinds h zs w r (logs_hold h zs w r).trims (λ ms v s. (logs_hold h ms v s).trims)

pub copies_finish : Always all_kinds (CopyFinishes all_kinds)
copies_finish h zs w r = copy_where all_kinds h zs w r (logs_hold h zs w r).trims (λ ms v s. (logs_hold h ms v s).trims)

pub trims_finish : Always all_kinds (TrimFinishes all_kinds)
trims_finish h zs w r = trim_where all_kinds h zs w r (logs_hold h zs w r).trims (λ ms v s. (logs_hold h ms v s).trims.in_time)

pub appends_finish : Always all_kinds (AppendFinishes all_kinds)
appends_finish h zs w r = append_where all_kinds h zs w r (logs_hold h zs w r).trims

pub asks_finish : Always all_kinds (AskFinishes all_kinds)
asks_finish h zs w r = ask_where all_kinds h zs w r (logs_hold h zs w r).trims

pub makes_finish : Always all_kinds (MakeFinishes all_kinds)
makes_finish h zs w r = make_where all_kinds h zs w r (logs_hold h zs w r).trims

pub asks_finish_anyway : Always all_kinds (AskWalks all_kinds)
asks_finish_anyway h zs w r = ask_walks_where all_kinds h zs w r (logs_hold h zs w r).trims

pub makes_finish_anyway : Always all_kinds (MakeWalks all_kinds)
makes_finish_anyway h zs w r = make_walks_where all_kinds h zs w r (logs_hold h zs w r).trims

pub rescues_finish : Always all_kinds (RescueWalks all_kinds)
rescues_finish h zs w r = rescue_walks_where all_kinds h zs w r (logs_hold h zs w r).trims

pub ends_finish : Always all_kinds (EndFinishes all_kinds)
ends_finish h zs w r = end_where all_kinds h zs w r (logs_hold h zs w r).trims

pub records_finish : Always all_kinds (RecordFinishes all_kinds)
records_finish h zs w r = record_where all_kinds h zs w r (logs_hold h zs w r).trims
