-- The request numbers that a node draws in a turn.
use Rattle.std.proofs.Common.{◌≡◌, ◌⊎◌, ℕ, suc, ◌+◌, ◌<◌, ◌≤◌, List, [], ◌∷◌, ◌++◌, length, map, sym, ap, ◌∙◌, subst, inl, inr, arith}
use Rattle.tg_base.specs.declared.ids.NodeId.{NodeId}
use Rattle.tg_base.specs.declared.msg.Msg.{Msg}
use Rattle.tg_base.specs.declared.packet.Out.{Out}
use Rattle.tg_protocol.specs.Requests.{out, Waits, waits_for, asked_of, without_wait, Turn, Next, Goes, Learns, Ends}
use Rattle.tg_law_layouts.proofs.Moves.Members.{Has, has_right, has_map, has_filter}

-- new requests: with numbers from `next` on and below `end`, each for one message
pub record IsNew (next end : ℕ) (xs : List Out) : Type 0 where
  pub from : (o : Out) → Has xs o → next ≤ o.rid
  pub below : (o : Out) → Has xs o → o.rid < end
  pub one : (o q : Out) → Has xs o → Has xs q → o.rid ≡ q.rid → o.msg ≡ q.msg

-- A turn from the requests `old` and the next number `next`: of all that it then awaits or sends, what isn't new was
-- awaited before.
pub record Drawn (old : List Out) (next : ℕ) (now : List Out) (end : ℕ) : Type 0 where
  pub up : next ≤ end
  pub new : List Out
  pub is_new : IsNew next end new
  pub either : (o : Out) → Has now o → Has old o ⊎ Has new o

pub none_new : (next end : ℕ) → IsNew next end []
none_new next end = record { from = λ o h. absurd h; below = λ o h. absurd h; one = λ o q h g. absurd h }

pub keeps : (old : List Out) (next : ℕ) (now : List Out) (end : ℕ) → next ≤ end → ((o : Out) → Has now o → Has old o) → Drawn old next now end
keeps old next now end up k = record { up = up; new = []; is_new = none_new next end; either = λ o h. inl (k o h) }

pub same : (old : List Out) (next : ℕ) → Drawn old next old next
same old next = keeps old next old next (omega arith) (λ o h. h)

pub none : (old : List Out) (next end : ℕ) → next ≤ end → Drawn old next [] end
none old next end up = keeps old next [] end up (λ o h. absurd h)

pub news : (old : List Out) (next : ℕ) (now : List Out) (end : ℕ) → next ≤ end → IsNew next end now → Drawn old next now end
news old next now end up n = record { up = up; new = now; is_new = n; either = λ o h. inr h }

pub one_new : (next : ℕ) (to : NodeId) (m : Msg) → IsNew next (next + 1) (out to next m ∷ [])
one_new next to m = record { from = λ o h. from o h; below = λ o h. below o h; one = λ o q h g e. one o q h g }
  where
    from : (o : Out) → Has (out to next m ∷ []) o → next ≤ o.rid
    from o (inl e) = let r = ap (λ (x : Out). x.rid) e in omega (arith, r)
    from o (inr h) = absurd h

    below : (o : Out) → Has (out to next m ∷ []) o → o.rid < next + 1
    below o (inl e) = let r = ap (λ (x : Out). x.rid) e in omega (arith, r)
    below o (inr h) = absurd h

    one : (o q : Out) → Has (out to next m ∷ []) o → Has (out to next m ∷ []) q → o.msg ≡ q.msg
    one o q (inl e) (inl f) = ap (λ (x : Out). x.msg) (e ∙ sym f)
    one o q (inl e) (inr h) = absurd h
    one o q (inr h) g = absurd h

pub draws_one : (old : List Out) (next : ℕ) (to : NodeId) (m : Msg) → Drawn old next (out to next m ∷ []) (next + 1)
draws_one old next to m = news old next _ (next + 1) (omega arith) (one_new next to m)

-- several nodes are asked alike
pub all_new : (name : ℕ → NodeId) (m : Msg) (ns : List ℕ) (next : ℕ) → IsNew next (next + length ns) (asked_of name m (waits_for ns next))
all_new name m ns next = record { from = λ o h. (within ns next o h).0; below = λ o h. (within ns next o h).1; one = λ o q h g e. msg_is ns next o h ∙ sym (msg_is ns next q g) }
  where
    more : (n next : ℕ) (ns : List ℕ) (o : Out) → o ≡ out (name n) next m → (next ≤ o.rid) × (o.rid < next + suc (length ns))
    more n next ns o e = let r = ap (λ (x : Out). x.rid) e in (omega (arith, r), omega (arith, r))

    wide : (next len : ℕ) (o : Out) → (next + 1 ≤ o.rid) × (o.rid < (next + 1) + len) → (next ≤ o.rid) × (o.rid < next + suc len)
    wide next len o h = let a = h.0 in let b = h.1 in (omega (arith, a), omega (arith, b))

    within : (ns : List ℕ) (next : ℕ) (o : Out) → Has (asked_of name m (waits_for ns next)) o → (next ≤ o.rid) × (o.rid < next + length ns)
    within [] next o h = absurd h
    within (n ∷ ns) next o (inl e) = more n next ns o e
    within (n ∷ ns) next o (inr h) = wide next (length ns) o (within ns (next + 1) o h)

    msg_is : (ns : List ℕ) (next : ℕ) (o : Out) → Has (asked_of name m (waits_for ns next)) o → o.msg ≡ m
    msg_is [] next o h = absurd h
    msg_is (n ∷ ns) next o (inl e) = ap (λ (x : Out). x.msg) e
    msg_is (n ∷ ns) next o (inr h) = msg_is ns (next + 1) o h

pub draws_all : (old : List Out) (next : ℕ) (name : ℕ → NodeId) (m : Msg) (ns : List ℕ) → Drawn old next (asked_of name m (waits_for ns next)) (next + length ns)
draws_all old next name m ns = news old next _ (next + length ns) (omega arith) (all_new name m ns next)

-- one request besides those that stay
pub besides : (old : List Out) (next : ℕ) (to : NodeId) (m : Msg) → Drawn old next (out to next m ∷ old) (next + 1)
besides old next to m = record { up = omega arith; new = out to next m ∷ []; is_new = one_new next to m; either = λ o h. by o h }
  where
    by : (o : Out) → Has (out to next m ∷ old) o → Has old o ⊎ Has (out to next m ∷ []) o
    by o (inl e) = inr (inl e)
    by o (inr h) = inl h

-- from fewer requests and a later number
pub wider : (old more : List Out) (next mid : ℕ) (now : List Out) (end : ℕ) → next ≤ mid → ((o : Out) → Has old o → Has more o) → Drawn old mid now end → Drawn more next now end
wider old more next mid now end le k d = record {
  up = let a = d.up in omega (arith, le, a);
  new = d.new;
  is_new = record {
    from = λ o h. let a = d.is_new.from o h in omega (arith, le, a);
    below = λ o h. d.is_new.below o h;
    one = λ o q h g e. d.is_new.one o q h g e;
  };
  either = λ o h. by o (d.either o h);
}
  where
    by : (o : Out) → Has old o ⊎ Has d.new o → Has more o ⊎ Has d.new o
    by o (inl h) = inl (k o h)
    by o (inr h) = inr h

-- all is new, from a later number on
pub later : (old : List Out) (next mid : ℕ) (now : List Out) (end : ℕ) → next ≤ mid → Drawn [] mid now end → Drawn old next now end
later old next mid now end le d = wider [] old next mid now end le (λ o h. absurd h) d

has_mapped : {X Y : Type 0} → (f : X → Y) (xs : List X) (x : X) → Has xs x → Has (map f xs) (f x)
has_mapped f [] x h = absurd h
has_mapped f (y ∷ xs) x (inl e) = inl (ap f e)
has_mapped f (y ∷ xs) x (inr h) = inr (has_mapped f xs x h)

-- fewer nodes are waited for
pub fewer_asked : (name : ℕ → NodeId) (m : Msg) (n : ℕ) (ws : Waits) (o : Out) → Has (asked_of name m (without_wait n ws)) o → Has (asked_of name m ws) o
fewer_asked name m n ws o h =
    let ask = λ (w : ℕ × ℕ). out (name w.0) w.1 m in
    let i = has_map ask (without_wait n ws) o h in
    subst (λ (x : Out). Has (asked_of name m ws) x) (sym i.is) (has_mapped ask ws i.of (has_filter _ ws i.of i.has))

-- A machine's turn.
abbrev pub NextDraws : {M E : Type 0} → (M → List Out) → List Out → ℕ → List Out → ℕ → Next M E → Type 0
NextDraws asks old next besides end (Goes x) = Drawn old next (besides ++ asks x) end
NextDraws asks old next besides end (Learns x) = (next ≤ end) × ((o : Out) → Has (asks x) o → Has old o)
NextDraws asks old next besides end (Ends e) = next ≤ end

abbrev pub TurnDraws : {M E : Type 0} → (M → List Out) → List Out → ℕ → Turn M E → Type 0
TurnDraws asks old next t = NextDraws asks old next t.besides t.next t.to

-- a turn draws no number below its next
pub next_up : {M E : Type 0} → (asks : M → List Out) (old : List Out) (next : ℕ) (bs : List Out) (end : ℕ) (to : Next M E) → NextDraws asks old next bs end to → next ≤ end
next_up asks old next bs end (Goes x) d = d.up
next_up asks old next bs end (Learns x) d = d.0
next_up asks old next bs end (Ends e) d = d

-- from fewer requests and a later number
pub next_wider : {M E : Type 0} → (asks : M → List Out) (old more : List Out) (next mid : ℕ) (bs : List Out) (end : ℕ) (to : Next M E) → next ≤ mid → ((o : Out) → Has old o → Has more o) → NextDraws asks old mid bs end to
    → NextDraws asks more next bs end to
next_wider asks old more next mid bs end (Goes x) le k d = wider old more next mid _ end le k d
next_wider asks old more next mid bs end (Learns x) le k d = (let a = d.0 in omega (arith, le, a), λ o h. k o (d.1 o h))
next_wider asks old more next mid bs end (Ends e) le k d = omega (arith, le, d)

-- what goes besides may be passed over
pub without : (old : List Out) (next : ℕ) (xs now : List Out) (end : ℕ) → Drawn old next (xs ++ now) end → Drawn old next now end
without old next xs now end d = record { up = d.up; new = d.new; is_new = d.is_new; either = λ o h. d.either o (has_right xs now o h) }

-- a later end
pub further : (old : List Out) (next : ℕ) (mid end : ℕ) → next ≤ mid → mid ≤ end → next ≤ end
further old next mid end a b = omega (arith, a, b)
