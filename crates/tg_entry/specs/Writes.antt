-- The writes of a commit record: each of its streams is written.
use Rattle.std.specs.Prelude.{ℕ, List, [], ◌∷◌, length, map}
use Rattle.tg_base.specs.declared.marks.StreamLink.{StreamLink}
use Rattle.tg_codec.specs.Codec.{Codec, dep, via, many, counted, text}
use Rattle.tg_codec.specs.Owing.{Debt, owing, named, paid}
use Rattle.tg_codec.specs.Streams.{oid}
use Rattle.tg_entry.specs.declared.entry.WriteOp.{WriteOp}

abbrev pub write : Debt → Codec WriteOp
write o = via (λ p. record { oid = p.0; op = p.1 }) (λ w. (w.oid, w.op)) (dep (oid (named o)) (λ _. text ((1, 4096) ∷ [])))

abbrev pub after_write : Debt → WriteOp → Debt
after_write o w = paid o w.oid.0

abbrev pub stream_numbers : List StreamLink → List ℕ
stream_numbers ls = map (λ l. l.oid.0) ls

-- There are as many writes as streams at least. Each names one of the streams, and where as many are left as
-- there are streams without one, one of these.
unfoldable pub writes : List StreamLink → Codec (List WriteOp)
writes ls = counted ((length ls, 64) ∷ []) (λ n. many write after_write n (owing n (stream_numbers ls)))
