-- A record that is read off a page has at most 64 writes, so the committed writes of a log are few.
use Rattle.std.proofs.Common.{◌≡◌, ℕ, ◌+◌, ◌*◌, ◌-◌, ◌<◌, ◌≤◌, Bool, true, false, List, [], ◌∷◌, length, Option, Some, None, Result, Ok, Err, refl, subst, inl, inr, arith}
use Rattle.std.specs.Prelude.{nat_lt, ◌==◌, if◌then◌else◌}
use Rattle.tg_base.specs.declared.cell.Cell.{Cell}
use Rattle.tg_base.specs.declared.cell.Cell.TheVariants.{Junk, Data}
use Rattle.tg_base.specs.declared.marks.StreamLink.{StreamLink}
use Rattle.tg_codec.specs.Codec.{Codec, u8, u16, u32, u64, fixed, dep, many, from_table}
use Rattle.tg_codec.specs.Owing.{points, owing}
use Rattle.tg_codec.specs.Streams.{any, from_one, links}
use Rattle.tg_codec.specs.Whole.{ended}
use Rattle.tg_codec.proofs.Shapes.{met_within}
use Rattle.tg_entry.specs.declared.entry.WriteOp.{WriteOp}
use Rattle.tg_entry.specs.declared.entry.Body.{Body}
use Rattle.tg_entry.specs.declared.entry.Body.TheVariants.{Commit, Decision}
use Rattle.tg_entry.specs.declared.entry.Entry.{Entry}
use Rattle.tg_entry.specs.Reads.{reads}
use Rattle.tg_entry.specs.Writes.{write, after_write, stream_numbers, writes}
use Rattle.tg_entry.specs.Checkpoints.{Fields, fields, make_checkpoint}
use Rattle.tg_entry.specs.Format.{commit, truth, decision, checkpoint, body, stream_counts, in_streams, by_number, by_client, of_tag, of_format, Row, to_entry, from_entry, entry}
use Rattle.tg_entry.specs.Needs.{writes_in, writes_of}
use Rattle.tg_kind.specs.Meaning.{Meaning}
use Rattle.tg_protocol.specs.Logs.{Log, entries_of, commits_after}
use Rattle.tg_protocol.specs.Pages.{entry_of, if_read, entry_in}
use Rattle.tg_protocol.specs.Views.{Entries, entry_if}
use Rattle.tg_law_layouts.proofs.Moves.Members.{Has}
use Rattle.tg_law_replies.specs.Plays.Sound.{rise_from}
use Rattle.tg_law_replies.proofs.History.Ledger.{Ledger, noted, with_writes, after, below, rises_next}
use Rattle.tg_law_programs.proofs.Transcripts.Readings.{Reads, reads_any, reads_dep, reads_via, reads_many, reads_counted}

-- Bodies.

abbrev FewIn : Body → Type 0
FewIn b = length (writes_in b) ≤ 64

reads_writes : (ls : List StreamLink) → Reads (writes ls) (λ ws. length ws ≤ 64)
unfolding writes
reads_writes ls = reads_counted ((length ls, 64) ∷ []) (λ n. many write after_write n (owing n (stream_numbers ls))) (λ n ws. Unit {0} × (length ws ≡ n)) (λ ws. length ws ≤ 64)
    (λ n. reads_many write after_write (λ o w. Unit {0}) (λ o ws. Unit {0}) (λ o. tt) (λ o w ws first rest. tt) (λ o. reads_any (write o)) n (owing n (stream_numbers ls)))
    (λ n ws met h. let high = (met_within (length ls) 64 n met).1 in let len = h.1 in omega (arith, high, len))

reads_commit : (format : ℕ) (ls : List StreamLink) → Reads (commit format ls) FewIn
reads_commit format ls =
    reads_via (λ p. Commit p.0 p.1) (λ b. ([], [])) (dep (reads format) (λ _. writes ls)) (λ p. Unit {0} × (length p.1 ≤ 64)) FewIn
    (reads_dep (reads format) (λ _. writes ls) (λ rs. Unit {0}) (λ rs ws. length ws ≤ 64) (reads_any (reads format)) (λ rs h. reads_writes ls)) (λ p h. h.1)

reads_decision : Reads decision FewIn
reads_decision = reads_via (λ p. Decision p.0 p.1) (λ b. (0, true)) (dep (u64 any) (λ _. truth)) (λ p. Unit {0}) FewIn (reads_any (dep (u64 any) (λ _. truth))) (λ p h. omega arith)

reads_checkpoint : (format : ℕ) (ls : List StreamLink) → Reads (checkpoint format ls) FewIn
reads_checkpoint format ls bytes b rest e =
    reads_via {B = Body} make_checkpoint (λ b. back) (fields format (points (stream_numbers ls))) (λ p. Unit {0}) FewIn (reads_any (fields format (points (stream_numbers ls)))) (λ p h. omega arith) bytes b rest e
  where
    back : Fields
    back = (record { 0 = 0 }, (0, (0, (0, ([], [])))))

reads_body : (format : ℕ) (ls : List StreamLink) (tag : ℕ) → Reads (body format ls tag) FewIn
unfolding body
reads_body format ls tag bytes b rest e = by (tag == 1) (tag == 2) (tag == 3) e
  where
    by : (x y z : Bool) → (if x then commit format ls else (if y then decision else (if z then checkpoint format ls else from_table [] tag))).read bytes ≡ Ok (b, rest) → FewIn b
    by true y z e = reads_commit format ls bytes b rest e
    by false true z e = reads_decision bytes b rest e
    by false false true e = reads_checkpoint format ls bytes b rest e
    by false false false e = absurd cc

-- Entries.

reads_streams : (format tag : ℕ) → Reads (in_streams format tag) (λ p. FewIn p.1)
reads_streams format tag bytes p rest e = (reads_dep (links (stream_counts tag)) (λ ls. body format ls tag) (λ ls. Unit {0}) (λ ls. FewIn) (reads_any (links (stream_counts tag))) (λ ls h. reads_body format ls tag) bytes p rest e).1

abbrev IsRow : Row → Type 0
IsRow p = FewIn p.1.1.1.1.1

reads_format : Reads of_format IsRow
reads_format = then_read {B = ℕ × (ℕ × (ℕ × (List StreamLink × Body)))} (u8 ((1, 2) ∷ [])) of_tag (λ p. FewIn p.1.1.1.1)
    (λ format. then_read {B = ℕ × (ℕ × (List StreamLink × Body))} (u8 ((1, 3) ∷ [])) (by_client format) (λ p. FewIn p.1.1.1)
    (λ tag. then_read {B = ℕ × (List StreamLink × Body)} (u16 any) (λ _. by_number format tag) (λ p. FewIn p.1.1)
    (λ client. then_read {B = List StreamLink × Body} (u32 from_one) (λ _. in_streams format tag) (λ p. FewIn p.1) (λ number. reads_streams format tag))))
  where
    -- after a value that doesn't matter
    then_read : {A B : Type 0} (a : Codec A) (b : A → Codec B) (Q : B → Type 0) → ((x : A) → Reads (b x) Q) → Reads (dep a b) (λ p. Q p.1)
    then_read {A} {B} a b Q each bytes p rest e = (reads_dep a b (λ x. Unit {0}) (λ x. Q) (reads_any a) (λ x h. each x) bytes p rest e).1

abbrev IsFew : Entry → Type 0
IsFew e = FewIn e.body

reads_entry : Reads entry IsFew
unfolding entry
reads_entry = reads_via to_entry from_entry (dep (fixed (0x54 ∷ [])) (λ _. of_format)) (λ p. Unit {0} × IsRow p.1) IsFew
    (reads_dep (fixed (0x54 ∷ [])) (λ _. of_format) (λ x. Unit {0}) (λ x. IsRow) (reads_any (fixed (0x54 ∷ []))) (λ x h. reads_format)) (λ p h. h.1)

page_few : (page : List ℕ) (e : Entry) → entry_of page ≡ Some e → IsFew e
unfolding entry_of
page_few page e is = by (entry.read page) refl is
  where
    none : {X : Type 0} → None ≡ Some e → X
    none z = absurd cc

    one : (x : Entry) → Some x ≡ Some e → x ≡ e
    one x z = cc

    ended_by : (x : Entry) (rest : List ℕ) → entry.read page ≡ Ok (x, rest) → (b : Bool) → if_read (if b then Ok x else Err (length page - length rest)) ≡ Some e → IsFew e
    ended_by x rest at true z = subst IsFew (one x z) (reads_entry page x rest at)
    ended_by x rest at false z = none z

    by : (r : Result (Entry × List ℕ) ℕ) → entry.read page ≡ r → if_read (ended page r) ≡ Some e → IsFew e
    by (Ok x) at z = ended_by x.0 x.1 at (length x.1 == 0) z
    by (Err n) at z = none z

-- Logs.

abbrev pub AreFew : Entries → Type 0
AreFew [] = Unit {0}
AreFew (x ∷ xs) = IsFew x.1 × AreFew xs

pub log_few : (l : Log) → AreFew (entries_of l)
unfolding entries_of
log_few [] = tt
log_few (x ∷ xs) = by x.1 (log_few xs)
  where
    maybe : (p : ℕ) (o : Option Entry) → ((e : Entry) → o ≡ Some e → IsFew e) → AreFew (entries_of xs) → AreFew (entry_if p o (entries_of xs))
    maybe p None k rest = rest
    maybe p (Some e) k rest = (k e refl, rest)

    none : (e : Entry) → None ≡ Some e → IsFew e
    none e z = absurd cc

    by : (c : Cell) → AreFew (entries_of xs) → AreFew (entry_if x.0 (entry_in c) (entries_of xs))
    by Junk rest = rest
    by (Data d) rest = maybe x.0 (entry_of d) (λ e is. page_few d e is) rest

-- entries below a position are no more than positions
pub few_below : (low top : ℕ) (es : Entries) → low ≤ top → rise_from low es ≡ true → ((x : ℕ × Entry) → Has es x → x.0 < top) → low + length es ≤ top
few_below low top [] le r less = omega (arith, le)
few_below low top (x ∷ es) le r less =
    let n = rises_next low x es r in
    let a = n.0 in
    let b = less x (inl refl) in
    let c = few_below (x.0 + 1) top es (omega (arith, b)) n.1 (λ y i. less y (inr i)) in
    omega (arith, a, b, c)

module _ (m : Meaning) where
  with_long : (p : ℕ) (ws : List WriteOp) (xs : Ledger m) → length (with_writes m p ws xs) ≡ length xs + length ws
  with_long p [] xs = omega arith
  with_long p (w ∷ ws) xs = let a = with_long p ws ((p, w) ∷ xs) in omega (arith, a)

  after_long : (xs : Ledger m) (p : ℕ) (e : Entry) → IsFew e → length (after m xs p e) ≤ length xs + 64
  after_long xs p e few = by (commits_after m (noted m xs) e)
    where
      by : (b : Bool) → length (if b then with_writes m p (writes_of e) xs else xs) ≤ length xs + 64
      by true = let a = with_long p (writes_of e) xs in omega (arith, a, few)
      by false = omega arith

  below_long : (xs : Ledger m) (es : Entries) (n : ℕ) → AreFew es → length (below m xs es n) ≤ length xs + 64 * length es
  unfolding below
  below_long xs [] n few = omega arith
  below_long xs (x ∷ es) n few = by (nat_lt x.0 n) (below_long (after m xs x.0 x.1) es n few.1) (after_long xs x.0 x.1 few.0)
    where
      by : (b : Bool) → length (below m (after m xs x.0 x.1) es n) ≤ length (after m xs x.0 x.1) + 64 * length es → length (after m xs x.0 x.1) ≤ length xs + 64
          → length (if b then below m (after m xs x.0 x.1) es n else xs) ≤ length xs + 64 * length (x ∷ es)
      by true a b = omega (arith, a, b)
      by false a b = omega arith

  noted_long : (xs : Ledger m) → length (noted m xs) ≡ length xs
  noted_long [] = refl
  noted_long (x ∷ xs) = let a = noted_long xs in omega (arith, a)

  -- the committed changes of a log are few
  pub changes_few : (es : Entries) (n : ℕ) → AreFew es → length (noted m (below m [] es n)) ≤ 64 * length es
  changes_few es n few = let a = noted_long (below m [] es n) in let b = below_long [] es n few in omega (arith, a, b)
