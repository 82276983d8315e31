-- A client before its first command, and what is told of a client.
use Rattle.std.proofs.Common.{◌≡◌, ℕ, Bool, List, [], ◌∷◌, Option, Some, None, refl, sym, ap, ◌∙◌, arith}
use Rattle.std.specs.Prelude.{is_some}
use Rattle.tg_base.specs.Clusters.{Header}
use Rattle.tg_base.specs.Layouts.{Layout}
use Rattle.tg_base.specs.declared.ids.Oid.{Oid}
use Rattle.tg_base.specs.declared.packet.Rids.{Rids}
use Rattle.tg_kind.specs.Meaning.{Meaning}
use Rattle.tg_client_cells.specs.Known.{Knowledge, nothing}
use Rattle.tg_protocol.specs.Layouts.{first_layout}
use Rattle.tg_protocol.specs.Words.{directory}
use Rattle.tg_protocol.specs.Clients.{Work, new_client}
use Rattle.tg_protocol.specs.ClientSteps.{client_asks}
use Rattle.tg_client_state.specs.Tasks.{WorkOf, KeepsMaybe}
use Rattle.tg_client_state.specs.States.{StateOf, client_of}
use Rattle.tg_client.specs.Kept.{KeepsClient}

module _ (m : Meaning) where
  pub fresh : (h : Header) (num layouts : ℕ) (objects : List Oid) (rids : Rids) (stand : Layout) (known : Knowledge) (hosted : List Oid) (dir : m.state) → layouts ≡ h.layouts → objects ≡ h.objects →
      rids ≡ record { next = 1 } → stand ≡ first_layout h → known ≡ nothing → hosted ≡ directory ∷ [] → dir ≡ m.fresh directory objects →
      KeepsClient m (record {
        state = record {
          num = num;
          layouts = layouts;
          objects = objects;
          calls = 0;
          rids = rids;
          stand = stand;
          known = known;
          hosted = hosted;
          view = None;
          dir = dir;
          tx = None;
          begun = 0;
          decisions = 0;
          checkpoints = 0;
        };
        work = None;
      }) (new_client m h num)
  unfolding new_client
  fresh h num layouts objects rids stand known hosted dir hl ho hr hs hk hh hd = record {
    kept = record {
      is = λ i. client_of m (record {
        num = num;
        layouts = (sym hl) i;
        objects = (sym ho) i;
        calls = 0;
        rids = (sym hr) i;
        stand = (sym hs) i;
        known = (sym hk) i;
        hosted = (sym hh) i;
        view = None;
        dir = (sym (hd ∙ ap (m.fresh directory) ho)) i;
        tx = None;
        begun = 0;
        decisions = 0;
        checkpoints = 0;
      }) (record { view = None; played = 0; work = None });
      view = tt;
      work = tt;
      drawn = tt;
      fit = tt;
    };
    counted = record { next = omega arith; begun = omega arith; decisions = omega arith; checkpoints = omega arith };
  }

  pub same_busy : (w : Option (WorkOf m)) (u : Option (Work m)) → KeepsMaybe m w u → is_some w ≡ is_some u
  same_busy None None h = refl
  same_busy None (Some u) h = absurd h
  same_busy (Some w) None h = absurd h
  same_busy (Some w) (Some u) h = refl
