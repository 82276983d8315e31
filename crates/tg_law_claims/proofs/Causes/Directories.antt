-- The directory of a client is that of the history.
use Rattle.std.proofs.Common.{List, sym, ap, ◌∙◌, subst}
use Rattle.tg_base.specs.Clusters.{Header}
use Rattle.tg_base.specs.declared.ids.Oid.{Oid}
use Rattle.tg_kind.specs.Meaning.{Meaning}
use Rattle.tg_protocol.specs.Words.{directory}
use Rattle.tg_protocol.specs.Logs.{history_of}
use Rattle.tg_protocol.specs.Worlds.{World, start, client, history}
use Rattle.tg_protocol.specs.Runs.{Moves, Reaches}
use Rattle.tg_protocol.specs.Causes.{DirectoryTrue}
use Rattle.tg_law_replies.specs.History.Logs.{AreListed, state_below}
use Rattle.tg_law_replies.specs.History.Worlds.{entries_in}
use Rattle.tg_law_replies.specs.Replies.Ended.{AppendsEnd}
use Rattle.tg_law_replies.specs.Replies.Laws.{ClientsFind}
use Rattle.tg_law_replies.specs.Views.Exact.{AreWriting}
use Rattle.tg_law_replies.proofs.History.Cells.{logs_rise}
use Rattle.tg_law_replies.proofs.Pages.Read.{logs_keep_grammar}
use Rattle.tg_law_replies.proofs.Replies.Along.{at_end}
use Rattle.tg_law_replies.proofs.Replies.Steps.{IsRightWorld}
use Rattle.tg_law_replies.proofs.Replies.Telling.{RightAndKept, found_kept}

module _ (m : Meaning) (h : Header) (ms : Moves m) (w : World m) (r : Reaches m h ms w) (listed : AreListed (entries_in m w)) (writing : AreWriting (entries_in m w)) (finds : ClientsFind m h ms w) (ends : AppendsEnd m h ms w) where
  right : IsRightWorld m h.objects (entries_in m w) (logs_rise m w) listed w
  right = (subst (λ (u : World m). RightAndKept m h (entries_in m w) (logs_rise m w) listed u) (sym r.goes.is)
      (at_end m (RightAndKept m h (entries_in m w) (logs_rise m w) listed) ms (start m h) (found_kept m h ms w listed writing r finds ends))).0

  is_true : DirectoryTrue m w
  unfolding history history_of
  is_true k = (right.clients k).dir ∙ ap (λ (os : List Oid). state_below m os (entries_in m w) (client m w k).played directory) (sym right.objects_are)

pub directory_is : (m : Meaning) (h : Header) (ms : Moves m) (w : World m) → Reaches m h ms w → ClientsFind m h ms w → AppendsEnd m h ms w → DirectoryTrue m w
directory_is m h ms w r finds ends = let g = logs_keep_grammar m w in is_true m h ms w r g.0 g.1 finds ends
