-- Each step of a run whose commands keep the grammar of scripts keeps what its clients have, and so does the run.
use Rattle.std.proofs.Common.{◌≡◌, ◌⊎◌, ℕ, ◌+◌, ◌<◌, ◌≤◌, ◌^◌, List, [], ◌∷◌, ◌++◌, length, map, Bool, true, false, refl, sym, ap, ◌∙◌, subst, inl, inr, arith, Some, None, Option}
use Rattle.std.specs.Prelude.{slice_get, is_some}
use Rattle.tg_base.specs.Clusters.{Header, IsHeader}
use Rattle.tg_base.specs.declared.ids.NodeId.{NodeId}
use Rattle.tg_base.specs.declared.ids.Role.{Role}
use Rattle.tg_base.specs.declared.ids.Role.TheVariants as role
use Rattle.tg_base.specs.declared.msg.Msg.TheVariants as msg
use Rattle.tg_base.specs.declared.packet.Packet.{Packet}
use Rattle.tg_model.specs.declared.command.Event.TheVariants.{Command as Commands, Deliver, Lose, Tick, Stop}
use Rattle.tg_model.specs.Kinds.{CommandOf, EventOf}
use Rattle.tg_protocol.specs.Clients.{Client, new_client}
use Rattle.tg_protocol.specs.ClientSteps.{ClientTurn, client_command, client_deliver, client_tick}
use Rattle.tg_protocol.specs.Runs.{Moves, Next, Takes, Reaches, run, most_steps}
use Rattle.tg_protocol.specs.Words.{client_id, seqr_id, numbers}
use Rattle.tg_protocol.specs.Worlds.{World, Told, start, client, log, happens, runs, mark_of, handed, noted_if, client_turned, unit_moves, layout_moves, seqr_moves, moves, comes, delivers, commands, ticks, ticks_if, stops_if, counted}
use Rattle.tg_any.specs.AllKinds.{all_kinds}
use Rattle.tg_law_layouts.specs.Moves.After.{after}
use Rattle.tg_law_layouts.proofs.Layouts.Deciding.{layouts_are_known, layouts_are_sound}
use Rattle.tg_law_layouts.proofs.Moves.Lists.{at_set, at_map}
use Rattle.tg_law_layouts.proofs.Moves.Members.{Has, has_got, has_either, has_map, has_right}
use Rattle.tg_law_replies.specs.History.Worlds.{entries_in}
use Rattle.tg_law_replies.specs.Replies.Steps.{EachEvent}
use Rattle.tg_law_replies.proofs.Books.Worlds.{declared, nil_right, regroup, run_both}
use Rattle.tg_law_replies.proofs.Replies.Carried.{event_more}
use Rattle.tg_law_walks.proofs.Drafts.Clients.{happens_steps, more_steps}
use Rattle.tg_law_walks.proofs.Lists.Reached.{before_reached}
use Rattle.tg_law_walks.specs.Walks.Streams.{AreKnown}
use Rattle.tg_law_syncs.proofs.Exact.Finds.{rounds_known}
use Rattle.tg_law_headline.proofs.Runs.Holding.{logs_hold}
use Rattle.tg_law_programs.proofs.Transcripts.Near.{Near, reply_near}
use Rattle.tg_law_programs.proofs.Transcripts.Given.{CommandOk}
use Rattle.tg_law_programs.proofs.Transcripts.Histories.{limit_few}
use Rattle.tg_law_programs.proofs.Transcripts.Limits.{full_tells_limit}
use Rattle.tg_law_programs.proofs.Transcripts.Posted.{posted}
use Rattle.tg_law_programs.proofs.Transcripts.Spoken.{EndReads}
use Rattle.tg_law_programs.proofs.Transcripts.Turned.{GoodTurn, commanded, delivered, ticked, up}
use Rattle.tg_law_programs.proofs.Transcripts.Passed.{Named, OpOk, AskOk, own_directory, marks_ok, Says, Kept, small_of, end_reads, State, note_says, reads_named}

abbrev Reads : Client all_kinds → Rattle.tg_protocol.specs.Clients.Work all_kinds → Type 0
Reads c w = EndReads all_kinds Named OpOk AskOk own_directory marks_ok c w

-- One step, of a world whose clients stand at this epoch or below it.
module _ (h : Header) (header : IsHeader h) (final : World all_kinds) (xs : Moves all_kinds) (r : Reaches all_kinds h xs (after all_kinds h xs)) (top : ℕ) (low : 2 ^ 32 ≤ top) (high : top + 1 < 2 ^ 64) where
  abbrev w : World all_kinds
  w = after all_kinds h xs

  abbrev Good : ClientTurn all_kinds → Type 0
  Good t = GoodTurn all_kinds Named OpOk AskOk own_directory marks_ok h.objects (entries_in all_kinds final) top low high t

  -- the limit that a sequencer tells
  limit_told : (q : ℕ) (p : Packet) (l : ℕ) → Has w.packets p → p.from ≡ seqr_id q → p.msg ≡ msg.Full l → Near l
  limit_told q p l has from says = let a = full_tells_limit all_kinds h xs q p l has from says in let b = limit_few h xs w r in omega (arith, a, b)

  raised : (c : Client all_kinds) → Kept top c → Kept (top + 1) c
  raised c k = up all_kinds Named OpOk AskOk own_directory marks_ok h.objects (entries_in all_kinds final) top low high c k

  silent : (v : World all_kinds) → v.clients ≡ w.clients → v.cluster ≡ w.cluster → v.told ≡ w.told → State top w → State (top + 1) v
  silent v c g t s = record {
    clients = λ k. subst (λ (x : Client all_kinds). Kept (top + 1) x) (λ i. Rattle.std.specs.Prelude.slice_index_or (sym c i) k (new_client all_kinds (sym g i) k)) (raised (client all_kinds w k) (s.clients k));
    told = λ x i. s.told x (subst (λ (ts : List (Told all_kinds)). Has ts x) t i);
  }

  -- a client turns, in a world that is this one but for what was noted, or for what waits
  turned : (u : World all_kinds) (n : ℕ) (t : ClientTurn all_kinds) → u.clients ≡ w.clients → u.cluster ≡ w.cluster → u.told ≡ w.told → n < length u.clients → Good t → State top w → State (top + 1) (client_turned all_kinds u n t)
  unfolding client_turned
  turned u n t c g e less good s = record {
    clients = at_set u.clients n t.now (new_client all_kinds u.cluster) (λ k x. Kept (top + 1) x) less good.now (λ k other. (silent u c g e s).clients k);
    told = λ x i. by x (has_either u.told (map (mark_of all_kinds u n) t.notes) x i);
  }
    where
      by : (x : Told all_kinds) → Has u.told x ⊎ Has (map (mark_of all_kinds u n) t.notes) x → Says x.mark.tx x.mark.what
      by x (inl i) = (silent u c g e s).told x i
      by x (inr i) = let z = has_map (mark_of all_kinds u n) t.notes x i in subst (λ (y : Told all_kinds). Says y.mark.tx y.mark.what) (sym z.is) (note_says t.notes good.notes z.of z.has)

  commands_state : (n : ℕ) (x : CommandOf all_kinds) (b : Bool) → runs all_kinds w (client_id n) ≡ b → CommandOk all_kinds Named OpOk AskOk x → State top w → State (top + 1) (commands all_kinds b w n x)
  commands_state n x false on k s = silent w refl refl refl s
  commands_state n x true on k s = by (is_some (client all_kinds w n).work)
    where
      good : Good (client_command all_kinds (client all_kinds w n) x)
      good = commanded all_kinds Named OpOk AskOk own_directory marks_ok h.objects (entries_in all_kinds final) top low high (client all_kinds w n) x (s.clients n) k
          (small_of (client all_kinds w n).stand (layouts_are_sound all_kinds h xs w r (client all_kinds w n).stand.epoch (client all_kinds w n).stand ((layouts_are_known all_kinds h xs w r).clients n)).rules)

      by : (b : Bool) → State (top + 1) (client_turned all_kinds (noted_if all_kinds b w n (client all_kinds w n)) n (client_command all_kinds (client all_kinds w n) x))
      by true = turned w n (client_command all_kinds (client all_kinds w n) x) refl refl refl (declared all_kinds w (client_id n) refl on) good s
      by false = turned (noted_if all_kinds false w n (client all_kinds w n)) n (client_command all_kinds (client all_kinds w n) x) refl refl refl (declared all_kinds w (client_id n) refl on) good s

  moves_state : (i : ℕ) (p : Packet) (a : Role) → p.to.role ≡ a → slice_get w.packets i ≡ Some p → runs all_kinds w p.to ≡ true → EachEvent all_kinds h.objects (entries_in all_kinds final) Reads w (Deliver i) → State top w
      → State (top + 1) (moves all_kinds (handed all_kinds w i) p a)
  unfolding unit_moves layout_moves seqr_moves
  moves_state i p role.Unit is got on each s = silent _ refl refl refl s
  moves_state i p role.Layout is got on each s = silent _ refl refl refl s
  moves_state i p role.Seqr is got on each s = silent _ refl refl refl s
  moves_state i p role.Client is got on each s =
      turned (handed all_kinds w i) p.to.num (client_deliver all_kinds (client all_kinds w p.to.num) p.from p.rid p.msg) refl refl refl (declared all_kinds w p.to is on)
      (delivered all_kinds Named OpOk AskOk own_directory marks_ok h.objects (entries_in all_kinds final) top low high (client all_kinds w p.to.num) p.from p.rid p.msg (s.clients p.to.num) (reply_near p.msg) (λ q l from says. limit_told q p l (has_got w.packets i p got) from says) ((posted all_kinds h header xs).from p (has_got w.packets i p got)) (each p got is on)) s

  ticks_state : (n : NodeId) (a : Role) → n.role ≡ a → runs all_kinds w n ≡ true → State top w → State (top + 1) (ticks all_kinds w n.num a)
  ticks_state n role.Unit is on s = silent _ refl refl refl s
  ticks_state n role.Layout is on s = silent _ refl refl refl s
  ticks_state n role.Seqr is on s = silent _ refl refl refl s
  ticks_state n role.Client is on s = turned w n.num (client_tick all_kinds (client all_kinds w n.num)) refl refl refl (declared all_kinds w n is on)
      (ticked all_kinds Named OpOk AskOk own_directory marks_ok h.objects (entries_in all_kinds final) top low high (client all_kinds w n.num) (s.clients n.num)) s

  counted_state : (v : World all_kinds) → State (top + 1) v → State (top + 1) (counted all_kinds v)
  counted_state v s = record { clients = s.clients; told = s.told }

  pub step_state : (e : EventOf all_kinds) → ((k : ℕ) (x : CommandOf all_kinds) → e ≡ Commands k x → CommandOk all_kinds Named OpOk AskOk x) → EachEvent all_kinds h.objects (entries_in all_kinds final) Reads w e → State top w → State (top + 1) (happens all_kinds w e)
  unfolding happens
  step_state (Commands k x) g each s = counted_state _ (commands_state k x (runs all_kinds w (client_id k)) refl (g k x refl) s)
  step_state (Deliver i) g each s = counted_state _ (by (slice_get w.packets i) refl)
    where
      to : (p : Packet) → slice_get w.packets i ≡ Some p → (b : Bool) → runs all_kinds w p.to ≡ b → State (top + 1) (comes all_kinds b (handed all_kinds w i) p)
      to p got true on = moves_state i p p.to.role refl got on each s
      to p got false on = silent _ refl refl refl s

      by : (o : Option Packet) → slice_get w.packets i ≡ o → State (top + 1) (delivers all_kinds w i o)
      by None got = silent w refl refl refl s
      by (Some p) got = to p got (runs all_kinds w p.to) refl
  step_state (Lose i) g each s = silent _ refl refl refl s
  step_state (Tick n) g each s = counted_state _ (by (runs all_kinds w n) refl)
    where
      by : (b : Bool) → runs all_kinds w n ≡ b → State (top + 1) (ticks_if all_kinds b w n)
      by true on = ticks_state n n.role refl on s
      by false on = silent w refl refl refl s
  step_state (Stop n) g each s = counted_state _ (by (runs all_kinds w n))
    where
      by : (b : Bool) → State (top + 1) (stops_if all_kinds b w n)
      by true = silent _ refl refl refl s
      by false = silent w refl refl refl s

-- Along the run.

module _ (h : Header) (ms : Moves all_kinds) (r : Reaches all_kinds h ms (after all_kinds h ms)) (given : (k : ℕ) (x : CommandOf all_kinds) → Has ms (Takes (Commands k x)) → CommandOk all_kinds Named OpOk AskOk x) where
  abbrev end : World all_kinds
  end = after all_kinds h ms

  -- the bound at a world
  abbrev top_at : Moves all_kinds → ℕ
  top_at xs = 2 ^ 32 + (after all_kinds h xs).steps

  module _ (xs ys : Moves all_kinds) (e : EventOf all_kinds) (split : ms ≡ xs ++ Takes e ∷ ys) where
    reached : Reaches all_kinds h xs (after all_kinds h xs)
    reached = before_reached all_kinds h ms r xs (Takes e ∷ ys) split

    here : Has ms (Takes e)
    here = subst (λ (zs : Moves all_kinds). Has zs (Takes e)) (sym split) (has_right xs (Takes e ∷ ys) (Takes e) (inl refl))

    gives : (k : ℕ) (x : CommandOf all_kinds) → e ≡ Commands k x → CommandOk all_kinds Named OpOk AskOk x
    gives k x is = given k x (subst (λ (f : EventOf all_kinds). Has ms (Takes f)) is here)

    few : (after all_kinds h xs).steps + 1 ≤ most_steps
    unfolding run
    few =
        let a = more_steps all_kinds (Takes e ∷ ys) (after all_kinds h xs) in
        let is : end ≡ run all_kinds (Takes e ∷ ys) (after all_kinds h xs) = ap (λ (zs : Moves all_kinds). after all_kinds h zs) split ∙ run_both all_kinds xs (Takes e ∷ ys) (start all_kinds h) in
        let b = ap (λ (v : World all_kinds). v.steps) is in
        let c = r.goes.few in
        let d = stepped (run all_kinds (Takes e ∷ ys) (after all_kinds h xs)) refl in
        omega (arith, b, c, d)
      where
        stepped : (v : World all_kinds) → v ≡ run all_kinds (Takes e ∷ ys) (after all_kinds h xs) → (after all_kinds h xs).steps + 1 ≤ v.steps
        stepped v is = let a = more_steps all_kinds ys (happens all_kinds (after all_kinds h xs) e) in let b = happens_steps all_kinds (after all_kinds h xs) e in let c = ap (λ (u : World all_kinds). u.steps) is in omega (arith, a, b, c)

    reads : State (top_at xs) (after all_kinds h xs) → EachEvent all_kinds h.objects (entries_in all_kinds end) Reads (after all_kinds h xs) e
    reads s = event_more all_kinds h.objects (entries_in all_kinds end) (λ c x. AreKnown (log all_kinds (after all_kinds h xs)) c.cells) Reads
        (λ c x known. end_reads c.cells (log all_kinds (after all_kinds h xs)) known (reads_named h xs (after all_kinds h xs) reached (top_at xs) s) c x refl) (after all_kinds h xs) e
        (rounds_known all_kinds h ms end r ((logs_hold h ms end r).trims.were) xs ys e split)

    stepped_on : State (top_at xs) (after all_kinds h xs) → State (2 ^ 32 + (happens all_kinds (after all_kinds h xs) e).steps) (happens all_kinds (after all_kinds h xs) e)
    stepped_on s =
        let f = few in
        subst (λ (n : ℕ). State n (happens all_kinds (after all_kinds h xs) e)) (let a = happens_steps all_kinds (after all_kinds h xs) e in more a)
        (step_state h r.header end xs reached (top_at xs) (omega arith) (omega (arith, f)) e gives (reads s) s)
      where
        more : (happens all_kinds (after all_kinds h xs) e).steps ≡ (after all_kinds h xs).steps + 1 → 2 ^ 32 + (after all_kinds h xs).steps + 1 ≡ 2 ^ 32 + (happens all_kinds (after all_kinds h xs) e).steps
        more a = omega (arith, a)

  state_on : (zs done : Moves all_kinds) → ms ≡ done ++ zs → State (top_at done) (after all_kinds h done) → State (top_at ms) end
  unfolding run
  state_on [] done e st = subst (λ (xs : Moves all_kinds). State (top_at xs) (after all_kinds h xs)) (sym (e ∙ nil_right done)) st
  state_on (Next ∷ zs) done e st = state_on zs (done ++ Next ∷ []) (e ∙ sym (regroup done (Next ∷ []) zs))
      (subst (λ (v : World all_kinds). State (2 ^ 32 + v.steps) v) (sym (run_both all_kinds done (Next ∷ []) (start all_kinds h))) (record { clients = st.clients; told = st.told }))
  state_on (Takes x ∷ zs) done e st = state_on zs (done ++ Takes x ∷ []) (e ∙ sym (regroup done (Takes x ∷ []) zs))
      (subst (λ (v : World all_kinds). State (2 ^ 32 + v.steps) v) (sym (run_both all_kinds done (Takes x ∷ []) (start all_kinds h))) (stepped_on done zs x e st))

  start_state : State (2 ^ 32 + (start all_kinds h).steps) (start all_kinds h)
  unfolding start new_client
  start_state = record {
    clients = λ k. at_map (new_client all_kinds h) (numbers h.clients 0) k (new_client all_kinds h k) (λ (c : Client all_kinds). Kept (2 ^ 32 + 0) c) (λ j. new j) (new k);
    told = λ t i. absurd i;
  }
    where
      new : (j : ℕ) → Kept (2 ^ 32 + 0) (new_client all_kinds h j)
      new j = record { work = tt; stand = (omega arith, tt) }

  pub end_state : State (top_at ms) end
  unfolding run
  end_state = state_on ms [] refl start_state
