-- What is kept of a live run, and what a part of it comes to over a link.
use Rattle.std.specs.Prelude.{◌≡◌, ◌≤◌, ℕ, List, length, map, Option}
use Rattle.tg_base.specs.Clusters.{Header}
use Rattle.tg_io.specs.Bytes.{Grows}
use Rattle.tg_live.specs.Books.{IsBook}
use Rattle.tg_any.specs.AllKinds.{all_kinds}
use Rattle.tg_replay.specs.Runs.{line_text}
use Rattle.tg_script.specs.Headers.{lines_text}
use Rattle.tg_world.specs.Kept.{KeptOf, IsWorld, KeepsWorld}
use Rattle.tg_live.specs.declared.live.Live.{Live as Kept}
use Rattle.tg_live.specs.declared.live.Went.{Went}
use Rattle.tg_live.specs.Sends.{Carried, sending, spellings, AreFit}
use Rattle.tg_live.specs.Lives.{Answer, Live, LiveRan}

-- what is kept is kept of a world, each event of which has put a line into the recording
pub record IsSound (world : KeptOf all_kinds) (recording : List ℕ) : Type 0 where
  pub kept : IsWorld all_kinds world
  pub few : world.event ≤ length recording

-- A live run is kept so, where `first` was done with the link before it, and `now` so far.
pub record Keeps (h : Header) (first now : Carried) (k : Kept) (l : Live) : Type 0 where
  pub cluster : k.cluster ≡ h
  pub world : KeepsWorld all_kinds k.world l.world
  pub fit : AreFit l.world.packets
  pub book : IsBook k.book (spellings l.world.packets) l.delivered
  pub recording : k.recording ≡ lines_text (map line_text l.lines)
  pub received : k.received ≡ l.received
  pub sent : Grows first.sent (map sending l.world.packets) now.sent
  pub acts : Grows first.acts l.acts now.acts

pub record KeepsRan (h : Header) (first now : Carried) (w : Went) (r : LiveRan) : Type 0 where
  pub live : Keeps h first now w.live r.live
  pub stopped : w.stopped ≡ r.stopped

-- A part of a run was made: it took the answers by which what the link handed over has grown.
pub record Made (part : List Answer → Live → LiveRan → Type 0) (h : Header) (first now : Carried) (before after : Option (List Answer)) (l : Live) (w : Went) : Type 0 where
  pub answers : List Answer
  pub end : LiveRan
  pub is : part answers l end
  pub kept : KeepsRan h first now w end
  pub handed : Grows before answers after
