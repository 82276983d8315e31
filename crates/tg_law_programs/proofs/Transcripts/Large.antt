-- How large an entry would be, where a refusal tells it, has 64 bits.
use Rattle.std.proofs.Common.{◌≡◌, ◌⊎◌, ℕ, ◌+◌, ◌<◌, ◌^◌, List, [], ◌∷◌, ◌++◌, map, Bool, true, false, refl, sym, ap, ◌∙◌, subst, inl, inr, arith, Some, None, Option}
use Rattle.std.specs.Prelude.{◌==◌, if◌then◌else◌}
use Rattle.tg_base.specs.Clusters.{Header}
use Rattle.tg_model.specs.declared.command.Command.TheVariants as cmd
use Rattle.tg_model.specs.declared.command.Event.TheVariants.{Command as Commands, Deliver, Lose, Tick, Stop}
use Rattle.tg_model.specs.declared.refusal.Refusal.TheVariants as cause
use Rattle.tg_model.specs.declared.trace.What.TheVariants as told
use Rattle.tg_model.specs.Kinds.{CommandOf, EventOf}
use Rattle.tg_protocol.specs.Causes.{CauseAtOnce, CauseLater, IsTooLarge, HasCause, given_in, command_at}
use Rattle.tg_protocol.specs.Clients.{Work}
use Rattle.tg_protocol.specs.Playing.{Replies}
use Rattle.tg_protocol.specs.Runs.{Moves, Next, Takes, Reaches, LawfulEvent, most_steps, run}
use Rattle.tg_protocol.specs.Stuck.{command_in}
use Rattle.tg_protocol.specs.Words.{or_else}
use Rattle.tg_protocol.specs.Worlds.{World, Told, start, client, happens}
use Rattle.tg_any.specs.AllKinds.{all_kinds}
use Rattle.tg_law_layouts.specs.Moves.After.{after}
use Rattle.tg_law_layouts.proofs.Moves.Lists.{contained}
use Rattle.tg_law_layouts.proofs.Moves.Members.{Has, has_either, has_left, has_right}
use Rattle.tg_law_replies.proofs.Books.Worlds.{nil_right, regroup, run_both}
use Rattle.tg_law_walks.proofs.Drafts.Clients.{happens_steps}
use Rattle.tg_law_walks.proofs.Lists.Reached.{before_reached}
use Rattle.tg_law_headline.proofs.Alike.Speaks.{Speaks, Silent, Speaks', told_of, speaks}
use Rattle.tg_law_claims.proofs.Causes.Reasons.{most_refusals_true}
use Rattle.tg_law_programs.proofs.Transcripts.Given.{CommandOk}
use Rattle.tg_law_programs.proofs.Transcripts.Near.{Near}
use Rattle.tg_law_programs.proofs.Transcripts.Numbers.{state_in}
use Rattle.tg_law_programs.proofs.Transcripts.Passed.{Named, OpOk, AskOk, State, own_directory, marks_ok}
use Rattle.tg_law_programs.proofs.Transcripts.Saved.{checkpoint_near}
use Rattle.tg_law_programs.proofs.Transcripts.Sizes.{would_be_small}
use Rattle.tg_law_programs.proofs.Transcripts.Spoken.{WorkOk}
use Rattle.tg_law_programs.proofs.Transcripts.Stepped.{end_state}

module _ (h : Header) (ms : Moves all_kinds) (r : Reaches all_kinds h ms (after all_kinds h ms)) (given : (k : ℕ) (x : CommandOf all_kinds) → Has ms (Takes (Commands k x)) → CommandOk all_kinds Named OpOk AskOk x) where
  -- the step that tells a reply
  record ToldBy (t : Told all_kinds) : Type 0 where
    before : Moves all_kinds
    event : EventOf all_kinds
    rest : Moves all_kinds
    split : ms ≡ before ++ Takes event ∷ rest
    says : Replies all_kinds (after all_kinds h before) event t

  step_told : (xs ys : Moves all_kinds) (e : EventOf all_kinds) → ms ≡ xs ++ Takes e ∷ ys → ((t : Told all_kinds) → Has (after all_kinds h xs).told t → ToldBy t) → (t : Told all_kinds) → Has (happens all_kinds (after all_kinds h xs) e).told t → ToldBy t
  step_told xs ys e split old t i = by (speaks all_kinds (after all_kinds h xs) e)
    where
      by : Speaks all_kinds (after all_kinds h xs) e (happens all_kinds (after all_kinds h xs) e) → ToldBy t
      by (Silent same c n) = old t (subst (λ (ts : List (Told all_kinds)). Has ts t) same i)
      by (Speaks' n u s j o grown f g) = either (has_either (after all_kinds h xs).told (map (told_of all_kinds (after all_kinds h xs) n s) u.notes) t (subst (λ (ts : List (Told all_kinds)). Has ts t) grown i))
        where
          either : Has (after all_kinds h xs).told t ⊎ Has (map (told_of all_kinds (after all_kinds h xs) n s) u.notes) t → ToldBy t
          either (inl a) = old t a
          either (inr a) = record { before = xs; event = e; rest = ys; split = split; says = record { replies = map (told_of all_kinds (after all_kinds h xs) n s) u.notes; are = grown; here = contained (map (told_of all_kinds (after all_kinds h xs) n s) u.notes) t a } }

  told_on : (zs done : Moves all_kinds) → ms ≡ done ++ zs → ((t : Told all_kinds) → Has (after all_kinds h done).told t → ToldBy t) → (t : Told all_kinds) → Has (after all_kinds h ms).told t → ToldBy t
  unfolding run
  told_on [] done e old = subst (λ (xs : Moves all_kinds). (t : Told all_kinds) → Has (after all_kinds h xs).told t → ToldBy t) (sym (e ∙ nil_right done)) old
  told_on (Next ∷ zs) done e old = told_on zs (done ++ Next ∷ []) (e ∙ sym (regroup done (Next ∷ []) zs))
      (subst (λ (v : World all_kinds). (t : Told all_kinds) → Has v.told t → ToldBy t) (sym (run_both all_kinds done (Next ∷ []) (start all_kinds h))) old)
  told_on (Takes x ∷ zs) done e old = told_on zs (done ++ Takes x ∷ []) (e ∙ sym (regroup done (Takes x ∷ []) zs))
      (subst (λ (v : World all_kinds). (t : Told all_kinds) → Has v.told t → ToldBy t) (sym (run_both all_kinds done (Takes x ∷ []) (start all_kinds h))) (step_told done zs x e old))

  none_told : (t : Told all_kinds) → Has (after all_kinds h []).told t → ToldBy t
  unfolding run start
  none_told t i = absurd i

  all_told : (t : Told all_kinds) → Has (after all_kinds h ms).told t → ToldBy t
  all_told = told_on ms [] refl none_told

  -- In such a step.
  module _ (xs ys : Moves all_kinds) (e : EventOf all_kinds) (split : ms ≡ xs ++ Takes e ∷ ys) where
    abbrev w : World all_kinds
    w = after all_kinds h xs

    reached : Reaches all_kinds h xs w
    reached = before_reached all_kinds h ms r xs (Takes e ∷ ys) split

    reached_next : Reaches all_kinds h (xs ++ Takes e ∷ []) (after all_kinds h (xs ++ Takes e ∷ []))
    reached_next = before_reached all_kinds h ms r (xs ++ Takes e ∷ []) ys (split ∙ sym (regroup xs (Takes e ∷ []) ys))

    next_is : after all_kinds h (xs ++ Takes e ∷ []) ≡ happens all_kinds w e
    unfolding run
    next_is = run_both all_kinds xs (Takes e ∷ []) (start all_kinds h)

    here : Has ms (Takes e)
    here = subst (λ (zs : Moves all_kinds). Has zs (Takes e)) (sym split) (has_right xs (Takes e ∷ ys) (Takes e) (inl refl))

    lawful : LawfulEvent all_kinds h e
    unfolding start
    lawful = r.goes.lawful (Takes e) (contained ms (Takes e) here)

    less : w.steps < most_steps
    less =
        let a = reached_next.goes.few in
        let b = ap (λ (v : World all_kinds). v.steps) next_is in
        let c = happens_steps all_kinds w e in
        omega (arith, a, b, c)

    kept : State (2 ^ 32 + w.steps) w
    kept = end_state h xs reached (λ k x i. given k x (subst (λ (zs : Moves all_kinds). Has zs (Takes (Commands k x))) (sym split) (has_left xs (Takes e ∷ ys) (Takes (Commands k x)) i)))

    abbrev Fine : CommandOf all_kinds → Type 0
    Fine x = CommandOk all_kinds Named OpOk AskOk x

    one_command : (x y : CommandOf all_kinds) → Some x ≡ Some y → x ≡ y
    one_command x y z = cc

    no_command : (x : CommandOf all_kinds) → None ≡ Some x → ⊥
    no_command x z = cc

    -- the command that waits
    waits_fine : (k : ℕ) (x : CommandOf all_kinds) → command_in all_kinds (client all_kinds w k).work ≡ Some x → Fine x
    waits_fine k x is = by (client all_kinds w k).work (kept.clients k).work is
      where
        by : (o : Option (Work all_kinds)) → WorkOk all_kinds Named OpOk AskOk own_directory marks_ok (2 ^ 32 + w.steps) o → command_in all_kinds o ≡ Some x → Fine x
        by None g z = absurd (no_command x z)
        by (Some v) g z = subst Fine (one_command v.command x z) g.0.0

    -- the command that is answered keeps the words of its fields
    command_fine : (k : ℕ) (x : CommandOf all_kinds) → command_at all_kinds w e k ≡ Some x → Fine x
    command_fine k x is = by e refl is
      where
        by : (f : EventOf all_kinds) → e ≡ f → or_else (given_in all_kinds f k) (command_in all_kinds (client all_kinds w k).work) ≡ Some x → Fine x
        by (Commands j y) at z = now (j == k) z
          where
            now : (b : Bool) → or_else (if b then Some y else None) (command_in all_kinds (client all_kinds w k).work) ≡ Some x → Fine x
            now true q = subst Fine (one_command y x q) (given j y (subst (λ (g : EventOf all_kinds). Has ms (Takes g)) at here))
            now false q = waits_fine k x q
        by (Deliver i) at z = waits_fine k x z
        by (Lose i) at z = waits_fine k x z
        by (Tick n) at z = waits_fine k x z
        by (Stop n) at z = waits_fine k x z

    at_once : (k n : ℕ) (x : CommandOf all_kinds) → Fine x → CauseAtOnce all_kinds w k x (cause.TooLarge n) → Near n
    at_once k n x fine c =
        let s = (state_in all_kinds h xs w reached).clients.sound k in
        let a = would_be_small (client all_kinds w k).begun (client all_kinds w k).tx x s.tx fine in
        let b = c.1 in
        omega (arith, a, b)

    later : (t : Told all_kinds) (n : ℕ) (x : CommandOf all_kinds) → Fine x → IsTooLarge all_kinds x (happens all_kinds w e) t n → Near n
    later t n (cmd.Checkpoint o) fine c =
        let a = checkpoint_near h (xs ++ Takes e ∷ []) reached_next t.mark.client c.1.0 (subst (λ (v : World all_kinds). (client all_kinds v t.mark.client).view ≡ Some c.1.0) (sym next_is) c.1.1) o fine c.1.0.upto t.mark.client 1 in
        let b = c.1.2 in
        omega (arith, a, b)
    later t n x fine c = absurd c

    caused_near : (t : Told all_kinds) (n : ℕ) → HasCause all_kinds w e t (cause.TooLarge n) → Near n
    caused_near t n c = by c.because
      where
        by : CauseAtOnce all_kinds w t.mark.client c.command (cause.TooLarge n) ⊎ CauseLater all_kinds w e t c.command (cause.TooLarge n) → Near n
        by (inl now) = at_once t.mark.client n c.command (command_fine t.mark.client c.command c.answered) now
        by (inr met) = later t n c.command (command_fine t.mark.client c.command c.answered) met

    told_near : (t : Told all_kinds) (n : ℕ) → Replies all_kinds w e t → t.mark.what ≡ told.Refused (cause.TooLarge n) → Near n
    told_near t n says is = caused_near t n (most_refusals_true h xs w e reached lawful less t (cause.TooLarge n) says is tt)

  -- how large an entry would be has 64 bits
  pub size_near : (t : Told all_kinds) (n : ℕ) → Has (after all_kinds h ms).told t → t.mark.what ≡ told.Refused (cause.TooLarge n) → Near n
  size_near t n i is = let b = all_told t i in told_near b.before b.rest b.event b.split t n b.says is
