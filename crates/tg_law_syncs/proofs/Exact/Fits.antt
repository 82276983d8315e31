-- What is left of what clients find, where no base of a kept view is past the tail.
use Rattle.std.proofs.Common.{◌≡◌, refl, sym, subst}
use Rattle.tg_base.specs.Clusters.{Header}
use Rattle.tg_kind.specs.Meaning.{Meaning}
use Rattle.tg_model.specs.Kinds.{CommandOf}
use Rattle.tg_model.specs.declared.command.Command.TheVariants as cmd
use Rattle.tg_protocol.specs.Views.{Entries}
use Rattle.tg_protocol.specs.Clients.{Work, Client}
use Rattle.tg_protocol.specs.Runs.{Moves, Reaches}
use Rattle.tg_protocol.specs.Worlds.{World}
use Rattle.tg_law_layouts.specs.Moves.After.{after}
use Rattle.tg_law_replies.specs.History.Worlds.{entries_in}
use Rattle.tg_law_replies.proofs.History.Cells.{logs_rise}
use Rattle.tg_law_replies.proofs.History.Loads.{states_load}
use Rattle.tg_law_replies.specs.Replies.Found.{Fits}
use Rattle.tg_law_replies.proofs.Replies.Carried.{both_more}
use Rattle.tg_law_walks.specs.Lists.Spared.{TrimsWereSpare}
use Rattle.tg_law_walks.proofs.Lists.Fits.{drafts_fit}
use Rattle.tg_law_syncs.specs.Finds.Left.{IsBased, PlaysFor, SavesPrecede, RoundsFit}
use Rattle.tg_law_syncs.specs.Exact.Finds.{ViewsBelow, ViewsFit, ViewsBelowBySpareTrims, ClientsFindWhereOwn, LeavesFor, HasStates, ViewsFitWhere}
use Rattle.tg_law_syncs.proofs.Exact.Topped.{event_at}
use Rattle.tg_law_syncs.proofs.Exact.Finds.{event_more, at_end, rounds_exact, rounds_known}
use Rattle.tg_law_syncs.proofs.Finds.Rounds.{clients_find}

module _ (m : Meaning) where
  views_here : (h : Header) (ms : Moves m) → Reaches m h ms (after m h ms) → TrimsWereSpare m h ms → SavesPrecede m (entries_in m (after m h ms)) → ViewsBelow m h ms (after m h ms)
  views_here h ms r trims precede before rest e split = event_at m h ms r trims (drafts_fit m h ms (after m h ms) r) precede before e rest split

  pub views_below : ViewsBelowBySpareTrims m
  views_below = at_end m (λ h ms w. SavesPrecede m (entries_in m w) → ViewsBelow m h ms w) views_here

  plays_for : (h : Header) (es : Entries) (before : Moves m) (c : Client m) (v : Work m) (x : CommandOf m) → IsBased m h es before c v → Fits m h es before c v x → v.command ≡ x → PlaysFor m h es before c v x
  plays_for h es before c v (cmd.AskAt p o q) b f is = tt
  plays_for h es before c v (cmd.Rescue p) b f is = tt
  plays_for h es before c v x b f is = record { based = b; fits = subst (Fits m h es before c v) (sym is) f }

  pub rounds_fit : (h : Header) (ms : Moves m) (w : World m) → ViewsBelow m h ms w → ViewsFit m h ms w → RoundsFit m h ms w
  rounds_fit h ms w below fit before rest e split =
      both_more m h.objects (entries_in m w) (λ c x. IsBased m h (entries_in m w) before c x) (λ c x. PlaysFor m h (entries_in m w) before c x x.command) (λ c x. Fits m h (entries_in m w) before c x x.command)
      (λ c x b f. plays_for h (entries_in m w) before c x x.command b f refl) (after m h before) e (below before rest e split) (fit before rest e split)

  pub finds : ClientsFindWhereOwn m
  finds h ms w r trims own precede fit =
      clients_find m h ms w r (rounds_exact m h ms w r trims) (rounds_known m h ms w r trims) own precede (rounds_fit h ms w (views_below h ms w r trims precede) fit)

  -- Of kinds whose states load.

  fits_for : (h : Header) (w : World m) (before : Moves m) → HasStates m h w → (c : Client m) (v : Work m) (x : CommandOf m) → LeavesFor m c v x → Fits m h (entries_in m w) before c v x
  fits_for h w before k c v (cmd.Fate p) f = f
  fits_for h w before k c v (cmd.Decide p) f = f
  fits_for h w before k c v (cmd.Checkpoint o) f = states_load m k.is_state k.is_op h.objects (entries_in m w) o v.tail k.states (logs_rise m w) k.ops (k.fresh o)
  fits_for h w before k c v x f = tt

  pub views_fit : ViewsFitWhere m
  views_fit h ms w k none before rest e split =
      event_more m h.objects (entries_in m w) (entries_in m w) (λ c x. LeavesFor m c x x.command) (λ c x. Fits m h (entries_in m w) before c x x.command) (λ c x f. fits_for h w before k c x x.command f) (after m h before) e (none before rest e split)
