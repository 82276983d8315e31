-- What a run shows.
use Rattle.std.specs.Prelude.{ℕ, List}
use Rattle.tg_base.specs.declared.ids.Oid.{Oid}
use Rattle.tg_model.specs.Kinds.{MarkOf, WhatOf, DoneOf}
use Rattle.tg_protocol.specs.Worlds.{World, trace, history}
use Rattle.tg_law_examples.proofs.SevenKinds.{kinds, Op}

pub record Shown : Type 0 where
  pub marks : List (MarkOf kinds)
  pub dones : List (DoneOf kinds)

abbrev pub shown : World kinds → Shown
shown w = record { marks = trace kinds w; dones = history kinds w }

abbrev pub obj : ℕ → Oid
obj n = record { 0 = n }

abbrev pub mark : ℕ → ℕ → ℕ → WhatOf kinds → MarkOf kinds
mark event client tx what = record { event = event; client = client; tx = tx; what = what }

abbrev pub done : ℕ → ℕ → ℕ → List (Oid × Op) → DoneOf kinds
done stamp client number writes = record { stamp = stamp; client = client; number = number; writes = writes }
