-- How following a text ends, and what is promised of it.
use Rattle.std.proofs.Common.{◌≡◌, ◌⊎◌, ℕ, ◌+◌, ◌<◌, ◌≤◌, true, List, [], ◌∷◌, ◌++◌, length, take, Option, Some, None, IfSome, Result, Err, sym, refl, subst, ap, ◌∙◌, arith, inl, inr, ⊎_elim}
use Rattle.tg_base.specs.Clusters.{Header, IsHeader}
use Rattle.tg_base.specs.declared.ids.NodeId.{NodeId}
use Rattle.tg_io.specs.declared.link.Arrival.{Arrival}
use Rattle.tg_io.specs.declared.link.Sent.{Sent}
use Rattle.tg_io.specs.declared.status.Status.{Status}
use Rattle.tg_io.specs.declared.status.Status.TheVariants as status
use Rattle.tg_io.specs.Acts.{Act}
use Rattle.tg_io.specs.Faults.{Rose}
use Rattle.tg_io.specs.declared.fault.IoErr.{IoErr}
use Rattle.tg_io.specs.declared.fault.IoErr.TheVariants.{Failed}
use Rattle.tg_io.proofs.Bytes.{grows_none}
use Rattle.tg_io.proofs.Faults.{rose_since}
use Rattle.tg_lines.specs.Feeds.{feeds, NoneOutside, TakesFeeds}
use Rattle.tg_lines.specs.Lines.{lines, ahead, TakesLine}
use Rattle.tg_lines.proofs.Feeding.{takes_more}
use Rattle.tg_lines.specs.declared.header.Opening.TheVariants.{Opens, Outside}
use Rattle.tg_script.specs.Headers.{header_lines}
use Rattle.tg_script.specs.Nodes.{is_declared}
use Rattle.tg_node_state.specs.Nodes.{node_start}
use Rattle.tg_node_state.specs.Kept.{KeepsNode}
use Rattle.tg_any.specs.AllKinds.{all_kinds}
use Rattle.tg_node.specs.Texts.{Seen, IsText, FirstOutside, Refused, IsWithin, IsCutBetween, IsCutShort, Outcome, IsOrStops, Told, IsOfNode}
use Rattle.tg_node.specs.Openings.{Opened}
use Rattle.tg_node.specs.Steps.{IsSound}
use Rattle.tg_node.specs.Stages.{seen, Follows, Follow, StillFollows, IsOfLine, IsRefused, GoesSound, Causes, IsNextLine, IsWritten, LineCauses}
use Rattle.tg_node.specs.declared.nodes.Moved.{Moved}
use Rattle.tg_node.specs.declared.nodes.Node.{Node}
use Rattle.tg_node.specs.declared.stages.Run.{Run}
use Rattle.tg_node.specs.declared.stages.Next.{Next}
use Rattle.tg_node.specs.declared.stages.Next.TheVariants.{Goes, Ends}
use Rattle.tg_node.proofs.Openings.{le_or_lt, not_before}
use Rattle.tg_node.proofs.Following.{cut_here, text_ended, point_begins, point_tells}

-- Line by line.

pub still_none : (first : Option (List ℕ)) (r : Run) (was : Seen) → StillFollows first first r was r was
still_none None r was = tt
still_none (Some bytes) r was = λ text before f. (refl, f)

pub still_more : (first rest left : Option (List ℕ)) (r q x : Run) (was now later : Seen) (line : List ℕ) → StillFollows first rest r was q now → TakesLine rest left (Some line)
    → ((text : List ℕ) (before : Seen) (more : List (List ℕ)) → Follows text before now q (line ∷ more) → Follow text q.id before later more (Goes x)) → StillFollows first left r was x later
still_more None rest left r q x was now later line h takes step = tt
still_more (Some bytes) None left r q x was now later line h takes step = absurd h
still_more (Some bytes) (Some rest) None r q x was now later line h takes step = absurd takes
still_more (Some bytes) (Some rest) (Some left) r q x was now later line h takes step = λ text before f.
    let here = h text before f in
    let next = step text before (lines left) (subst (λ (ls : List (List ℕ)). Follows text before now q ls) takes here.1) in
    (next.0 ∙ here.0, next.1)

outcome_of : (text : List ℕ) (n k : NodeId) (s : Status) (before now : Seen) → n ≡ k → Outcome text n s before now → Outcome text k s before now
outcome_of text n k s before now e h = subst (λ (x : NodeId). Outcome text x s before now) e h

pub still_ends : (first rest left : Option (List ℕ)) (r q : Run) (was now later : Seen) (line : List ℕ) (s : Status) → StillFollows first rest r was q now → TakesLine rest left (Some line)
    → ((text : List ℕ) (before : Seen) (more : List (List ℕ)) → Follows text before now q (line ∷ more) → Follow text q.id before later more (Ends s))
    → IfSome first (λ bytes. (text : List ℕ) (before : Seen) → Follows text before was r (lines bytes) → Outcome text r.id s before later)
still_ends None rest left r q was now later line s h takes step = tt
still_ends (Some bytes) None left r q was now later line s h takes step = absurd h
still_ends (Some bytes) (Some rest) None r q was now later line s h takes step = absurd takes
still_ends (Some bytes) (Some rest) (Some left) r q was now later line s h takes step = λ text before f.
    let here = h text before f in
    outcome_of text q.id r.id s before later here.0 (step text before (lines left) (subst (λ (ls : List (List ℕ)). Follows text before now q ls) takes here.1))

pub still_done : (first rest left : Option (List ℕ)) (r q : Run) (was : Seen) (sent : Option (List Sent)) (handed : Option (List (Option Arrival))) (acts : Option (List Act)) (written : Option (List ℕ)) → StillFollows first rest r was q (seen sent handed acts written) → TakesLine rest left None
    → IfSome first (λ bytes. (text : List ℕ) (before : Seen) → Follows text before was r (lines bytes) → Outcome text r.id status.Done before (seen sent handed acts written))
still_done None rest left r q was sent handed acts written h takes = tt
still_done (Some bytes) None left r q was sent handed acts written h takes = absurd h
still_done (Some bytes) (Some rest) None r q was sent handed acts written h takes = absurd takes
still_done (Some bytes) (Some rest) (Some left) r q was sent handed acts written h takes = λ text before f.
    let here = h text before f in
    outcome_of text q.id r.id status.Done before (seen sent handed acts written) here.0
    (text_ended text before (seen sent handed acts written) q (subst (λ (b : List ℕ). Follows text before (seen sent handed acts written) q (lines b)) takes.0 here.1))

-- a run that is cut off between two lines
pub still_cut : (first rest : Option (List ℕ)) (r q : Run) (was : Seen) (sent : Option (List Sent)) (handed : Option (List (Option Arrival))) (acts : Option (List Act)) (written : Option (List ℕ)) → StillFollows first rest r was q (seen sent handed acts written)
    → IfSome first (λ bytes. (text : List ℕ) (before : Seen) → Follows text before was r (lines bytes) → IsCutBetween text r.id before (seen sent handed acts written))
still_cut None rest r q was sent handed acts written h = tt
still_cut (Some bytes) None r q was sent handed acts written h = absurd h
still_cut (Some bytes) (Some rest) r q was sent handed acts written h = λ text before f.
    let here = h text before f in
    subst (λ (n : NodeId). IsCutBetween text n before (seen sent handed acts written)) here.0 (cut_here text before (seen sent handed acts written) q (lines rest) here.1)

pub still_none_left : (first : Option (List ℕ)) (n : NodeId) (r : Run) (was now : Seen) → IfSome first (λ bytes. (text : List ℕ) (before : Seen) → Follows text before was r (lines bytes) → IsCutBetween text n before now)
    → IfSome first (λ bytes. (text : List ℕ) (before : Seen) → Follows text before was r (lines bytes) → IsCutShort text n before now)
still_none_left None n r was now h = tt
still_none_left (Some bytes) n r was now h = λ text before f. inl (h text before f)

-- The opening.

pub opens : (text : List ℕ) (n : NodeId) (h : Header) (k : Node) (rest : List ℕ) (sent : Option (List Sent)) (handed : Option (List (Option Arrival))) (acts : Option (List Act)) (written : Option (List ℕ)) → IsHeader h → is_declared h n ≡ true → lines text ≡ header_lines h ++ lines rest → KeepsNode all_kinds 0 k.own (node_start all_kinds h n) → k.steps ≡ 0
    → k.received ≡ 0 → k.replies ≡ [] → Follows text (seen sent handed acts written) (seen sent handed acts written) (record { id = n; cluster = h; lines = 0; node = k }) (lines rest)
opens text n h k rest sent handed acts written lawful declared cut keeps steps received none = record {
  point = record { header = h; lawful = lawful; declared = declared; read = []; rest = lines rest; deeds = []; cut = cut; done = tt; few = omega arith; fewer = omega arith };
  left = refl;
  header = refl;
  lines = refl;
  steps = steps;
  received = received;
  none = none;
  keeps = subst (λ (j : ℕ). KeepsNode all_kinds j k.own (node_start all_kinds h n)) (sym steps) keeps;
  seen = record { sent = grows_none sent; handed = grows_none handed; acts = grows_none acts; written = grows_none written };
}

pub opens_sound : (n : NodeId) (h : Header) (k : Node) → KeepsNode all_kinds 0 k.own (node_start all_kinds h n) → k.steps ≡ 0 → k.received ≡ 0 → IsSound k
opens_sound n h k keeps steps received = record {
  node = record { node = node_start all_kinds h n; keeps = subst (λ (j : ℕ). KeepsNode all_kinds j k.own (node_start all_kinds h n)) (sym steps) keeps };
  steps = omega (arith, steps);
  received = omega (arith, received);
}

-- the text of a source before anything is read
pub header_opens : (left : Option (List ℕ)) (held : List ℕ) (rest : Option (List ℕ)) (n : NodeId) (h : Header) (s : Status) (before now : Seen) → held ≡ [] → Opened n (ahead held left) rest (Opens h)
    → IfSome rest (λ bytes. (text : List ℕ) → lines text ≡ header_lines h ++ lines bytes → is_declared h n ≡ true → Outcome text n s before now) → Told left (λ text. Outcome text n s before now)
header_opens None held rest n h s before now e opened f = tt
header_opens (Some text) held None n h s before now e opened f = absurd opened
header_opens (Some text) held (Some bytes) n h s before now e opened f = f text (sym (ap (λ (x : List ℕ). lines (x ++ text)) e) ∙ opened.0) opened.1

pub header_outside : (left : Option (List ℕ)) (held : List ℕ) (rest : Option (List ℕ)) (n : NodeId) (k : ℕ) (now : Seen) → held ≡ [] → Opened n (ahead held left) rest (Outside k) → Told left (λ text. Outcome text n (status.Script k) now now)
header_outside None held rest n k now e opened = tt
header_outside (Some text) held None n k now e opened = absurd opened
header_outside (Some text) held (Some bytes) n k now e opened =
    inr (record { first = subst (λ (x : List ℕ). FirstOutside (lines (x ++ text)) n k) e opened.1; few = opened.0; still = refl })

pub told_cut : (left : Option (List ℕ)) (n : NodeId) (now : Seen) → Told left (λ text. IsCutBetween text n now now)
told_cut None n now = tt
told_cut (Some text) n now = inl refl

pub told_none : (left : Option (List ℕ)) (n : NodeId) (now : Seen) → Told left (λ text. IsCutShort text n now now)
told_none None n now = tt
told_none (Some text) n now = inl (inl refl)

-- What is promised.

pub told_as : (left : Option (List ℕ)) (n : NodeId) (s t : Status) (before now : Seen) → Told left (λ text. Outcome text n s before now) → s ≡ t → Told left (λ text. Outcome text n t before now)
told_as None n s t before now h e = tt
told_as (Some text) n s t before now h e = subst (λ (x : Status). Outcome text n x before now) e h

-- where nothing failed
pub record IsUndisturbed (s : Status) : Type 0 where
  pub reads : s ≡ status.ReadFault → ⊥
  pub writes : s ≡ status.WriteFault → ⊥
  pub sends : s ≡ status.LinkFault → ⊥

-- of two lines the earlier is the first outside
first_once : (ls : List (List ℕ)) (n : NodeId) (j k : ℕ) → FirstOutside ls n j → FirstOutside ls n k → j ≡ k
first_once ls n j k a b = ⊎_elim
    (λ (le : j ≤ k). ⊎_elim (λ (ge : k ≤ j). let e : j ≡ k = omega (arith, le, ge) in e) (λ (lt : j < k). absurd (not_before ls n j k lt b a)) (le_or_lt k j))
    (λ (lt : k < j). absurd (not_before ls n k j lt a b))
    (le_or_lt j k)

first_refused : (text : List ℕ) (n : NodeId) (k : ℕ) (before now : Seen) → Refused text n k before now → FirstOutside (lines text) n k
first_refused text n k before now (inl r) = r.first
first_refused text n k before now (inr r) = r.first

-- no line of a text of the node is outside
whole_inside : (text : List ℕ) (n : NodeId) (k : ℕ) → IsText text n → FirstOutside (lines text) n k → ⊥
whole_inside text n k t out = out.outside (t.0, ap (λ (ls : List (List ℕ)). take k ls) t.1)

completes : (text : List ℕ) (n : NodeId) (s : Status) (before now : Seen) → Outcome text n s before now → IsUndisturbed s → IsText text n → IsWithin text n before.handed now.handed → (s ≡ status.Done) ⊎ (s ≡ status.NoMemory)
completes text n status.Done before now h u t within = inl refl
completes text n status.NoMemory before now h u t within = inr refl
completes text n (status.Illegal line c) before now h u t within = absurd h
completes text n status.Words before now h u t within = absurd h
completes text n (status.Script k) before now h u t within = absurd (whole_inside text n k t (first_refused text n k before now h))
completes text n status.ReadFault before now h u t within = absurd (u.reads refl)
completes text n status.WriteFault before now h u t within = absurd (u.writes refl)
completes text n status.LinkFault before now h u t within = absurd (u.sends refl)
completes text n (status.Limit w) before now h u t within = absurd (within w (h.midst, h.seen.handed))

refuses : (text : List ℕ) (n : NodeId) (s : Status) (k : ℕ) (before now : Seen) → Outcome text n s before now → IsUndisturbed s → FirstOutside (lines text) n k → IsWithin text n before.handed now.handed → (s ≡ status.Script k) ⊎ (s ≡ status.NoMemory)
refuses text n status.Done k before now h u out within = absurd (whole_inside text n k (point_tells text n h.point h.end) out)
refuses text n status.NoMemory k before now h u out within = inr refl
refuses text n (status.Illegal line c) k before now h u out within = absurd h
refuses text n status.Words k before now h u out within = absurd h
refuses text n (status.Script j) k before now h u out within = inl (ap status.Script (first_once (lines text) n j k (first_refused text n j before now h) out))
refuses text n status.ReadFault k before now h u out within = absurd (u.reads refl)
refuses text n status.WriteFault k before now h u out within = absurd (u.writes refl)
refuses text n status.LinkFault k before now h u out within = absurd (u.sends refl)
refuses text n (status.Limit w) k before now h u out within = absurd (within w (h.midst, h.seen.handed))

pub complete_told : (left : Option (List ℕ)) (n : NodeId) (s : Status) (before now : Seen) → Told left (λ text. Outcome text n s before now) → IsUndisturbed s
    → Told left (λ text. IsText text n → IsWithin text n before.handed now.handed → (s ≡ status.Done) ⊎ (s ≡ status.NoMemory))
complete_told None n s before now h u = tt
complete_told (Some text) n s before now h u = λ t within. completes text n s before now h u t within

pub refuses_told : (left : Option (List ℕ)) (n : NodeId) (s : Status) (before now : Seen) → Told left (λ text. Outcome text n s before now) → IsUndisturbed s
    → Told left (λ text. (k : ℕ) → FirstOutside (lines text) n k → IsWithin text n before.handed now.handed → (s ≡ status.Script k) ⊎ (s ≡ status.NoMemory))
refuses_told None n s before now h u = tt
refuses_told (Some text) n s before now h u = λ k out within. refuses text n s k before now h u out within

-- Whatever the link tells.

ends : (text : List ℕ) (n : NodeId) (s : Status) (before now : Seen) → Outcome text n s before now → IsUndisturbed s → IsText text n → IsOrStops s status.Done
ends text n status.Done before now h u t = inl refl
ends text n status.NoMemory before now h u t = inr (inr refl)
ends text n (status.Illegal line c) before now h u t = absurd h
ends text n status.Words before now h u t = absurd h
ends text n (status.Script k) before now h u t = absurd (whole_inside text n k t (first_refused text n k before now h))
ends text n status.ReadFault before now h u t = absurd (u.reads refl)
ends text n status.WriteFault before now h u t = absurd (u.writes refl)
ends text n status.LinkFault before now h u t = absurd (u.sends refl)
ends text n (status.Limit w) before now h u t = inr (inl (w, refl))

refuses_or : (text : List ℕ) (n : NodeId) (s : Status) (k : ℕ) (before now : Seen) → Outcome text n s before now → IsUndisturbed s → FirstOutside (lines text) n k → IsOrStops s (status.Script k)
refuses_or text n status.Done k before now h u out = absurd (whole_inside text n k (point_tells text n h.point h.end) out)
refuses_or text n status.NoMemory k before now h u out = inr (inr refl)
refuses_or text n (status.Illegal line c) k before now h u out = absurd h
refuses_or text n status.Words k before now h u out = absurd h
refuses_or text n (status.Script j) k before now h u out = inl (ap status.Script (first_once (lines text) n j k (first_refused text n j before now h) out))
refuses_or text n status.ReadFault k before now h u out = absurd (u.reads refl)
refuses_or text n status.WriteFault k before now h u out = absurd (u.writes refl)
refuses_or text n status.LinkFault k before now h u out = absurd (u.sends refl)
refuses_or text n (status.Limit w) k before now h u out = inr (inl (w, refl))

pub ends_told : (left : Option (List ℕ)) (n : NodeId) (s : Status) (before now : Seen) → Told left (λ text. Outcome text n s before now) → IsUndisturbed s → Told left (λ text. IsText text n → IsOrStops s status.Done)
ends_told None n s before now h u = tt
ends_told (Some text) n s before now h u = λ t. ends text n s before now h u t

pub refuses_or_told : (left : Option (List ℕ)) (n : NodeId) (s : Status) (before now : Seen) → Told left (λ text. Outcome text n s before now) → IsUndisturbed s
    → Told left (λ text. (k : ℕ) → FirstOutside (lines text) n k → IsOrStops s (status.Script k))
refuses_or_told None n s before now h u = tt
refuses_or_told (Some text) n s before now h u = λ k out. refuses_or text n s k before now h u out

-- Causes.

of_node : (s : Status) → IsOfLine (Ends s) → IsOfNode s
of_node status.Done h = absurd h
of_node (status.Illegal line c) h = absurd h
of_node status.Words h = absurd h
of_node (status.Script k) h = tt
of_node status.ReadFault h = absurd h
of_node status.WriteFault h = tt
of_node status.LinkFault h = tt
of_node (status.Limit w) h = tt
of_node status.NoMemory h = tt

pub no_read : (s : Status) → IsOfLine (Ends s) → s ≡ status.ReadFault → ⊥
no_read s h e = let x : IsOfLine (Ends status.ReadFault) = subst (λ (y : Status). IsOfLine (Ends y)) e h in x

pub nat_same : (n : ℕ) → n ≤ n
nat_same n = omega arith

status_in : Next → Status → Status
status_in (Ends s) t = s
status_in (Goes run) t = t

ends_inv : (s t : Status) → Ends s ≡ Ends t → s ≡ t
unfolding status_in
ends_inv s t e = ap (λ x. status_in x s) e

-- a line ends a run
pub causes_ends : (r0 r1 r2 w0 w1 w2 l0 l1 l2 : ℕ) (s : Status) → r0 ≤ r1 → r1 ≤ r2 → r2 ≡ r0 → w1 ≡ w0 → l1 ≡ l0 → LineCauses w1 w2 l1 l2 (Ends s) → Causes r0 r2 w0 w2 l0 l2 s
causes_ends r0 r1 r2 w0 w1 w2 l0 l1 l2 s r q same w l h = record {
  read = λ e. absurd (no_read s h.ways e);
  write = λ e. rose_since w0 w1 w2 (omega (arith, w)) h.write_later (h.write (ap Ends e));
  link = λ e. rose_since l0 l1 l2 (omega (arith, l)) h.link_later (h.link (ap Ends e));
  ways = of_node s h.ways;
  read_later = omega (arith, r, q);
  write_later = let v : w1 ≤ w2 = h.write_later in omega (arith, w, v);
  link_later = let m : l1 ≤ l2 = h.link_later in omega (arith, l, m);
  read_still = λ a b. same;
  write_still = λ a b. h.write_still (λ e. a (ends_inv _ _ e)) (λ e. b (ends_inv _ _ e)) ∙ w;
  link_still = λ a b. h.link_still (λ e. a (ends_inv _ _ e)) (λ e. b (ends_inv _ _ e)) ∙ l;
}

pub causes_read : (r0 r1 r2 w0 w1 l0 l1 : ℕ) → r0 ≤ r1 → r1 ≤ r2 → w1 ≡ w0 → l1 ≡ l0 → Rose r1 r2 → Causes r0 r2 w0 w1 l0 l1 status.ReadFault
causes_read r0 r1 r2 w0 w1 l0 l1 r q w l rose = record {
  read = λ e. rose_since r0 r1 r2 r q rose;
  write = λ e. absurd cc;
  link = λ e. absurd cc;
  ways = tt;
  read_later = omega (arith, r, q);
  write_later = omega (arith, w);
  link_later = omega (arith, l);
  read_still = λ a b. absurd (a refl);
  write_still = λ a b. w;
  link_still = λ a b. l;
}

pub causes_done : (r0 r1 w0 w1 l0 l1 : ℕ) → r0 ≤ r1 → r1 ≡ r0 → w1 ≡ w0 → l1 ≡ l0 → Causes r0 r1 w0 w1 l0 l1 status.Done
causes_done r0 r1 w0 w1 l0 l1 r same w l = record {
  read = λ e. absurd cc;
  write = λ e. absurd cc;
  link = λ e. absurd cc;
  ways = tt;
  read_later = r;
  write_later = omega (arith, w);
  link_later = omega (arith, l);
  read_still = λ a b. same;
  write_still = λ a b. w;
  link_still = λ a b. l;
}

pub causes_none : (r0 r1 r2 w0 w1 l0 l1 : ℕ) → r0 ≤ r1 → r1 ≤ r2 → w1 ≡ w0 → l1 ≡ l0 → Causes r0 r2 w0 w1 l0 l1 status.NoMemory
causes_none r0 r1 r2 w0 w1 l0 l1 r q w l = record {
  read = λ e. absurd cc;
  write = λ e. absurd cc;
  link = λ e. absurd cc;
  ways = tt;
  read_later = omega (arith, r, q);
  write_later = omega (arith, w);
  link_later = omega (arith, l);
  read_still = λ a b. absurd (b refl);
  write_still = λ a b. absurd (b refl);
  link_still = λ a b. absurd (b refl);
}

pub causes_script : (k r0 r1 w l : ℕ) → r0 ≤ r1 → r1 ≡ r0 → Causes r0 r1 w w l l (status.Script k)
causes_script k r0 r1 w l r same = record {
  read = λ e. absurd cc;
  write = λ e. absurd cc;
  link = λ e. absurd cc;
  ways = tt;
  read_later = r;
  write_later = omega arith;
  link_later = omega arith;
  read_still = λ a b. same;
  write_still = λ a b. refl;
  link_still = λ a b. refl;
}

-- a header was read before
pub causes_since : (r0 r1 r2 w0 w1 l0 l1 : ℕ) (s : Status) → r0 ≤ r1 → r1 ≡ r0 → Causes r1 r2 w0 w1 l0 l1 s → Causes r0 r2 w0 w1 l0 l1 s
causes_since r0 r1 r2 w0 w1 l0 l1 s r same h = record {
  read = λ e. rose_since r0 r1 r2 r h.read_later (h.read e);
  write = h.write;
  link = h.link;
  ways = h.ways;
  read_later = let q : r1 ≤ r2 = h.read_later in omega (arith, r, q);
  write_later = h.write_later;
  link_later = h.link_later;
  read_still = λ a b. h.read_still a b ∙ same;
  write_still = h.write_still;
  link_still = h.link_still;
}

-- what a line's causes are, from those of what it does and of what it writes
pub line_writes : (w0 w1 l0 l1 : ℕ) (x : Next) → IsOfLine x → (x ≡ Ends status.WriteFault → Rose w0 w1) → (x ≡ Ends status.LinkFault → ⊥) → w0 ≤ w1
    → ((x ≡ Ends status.WriteFault → ⊥) → (x ≡ Ends status.NoMemory → ⊥) → w1 ≡ w0) → l1 ≡ l0 → LineCauses w0 w1 l0 l1 x
line_writes w0 w1 l0 l1 x ways write link w still l = record { write = write; link = λ e. absurd (link e); ways = ways; write_later = w; link_later = omega (arith, l); write_still = still; link_still = λ a b. l }

pub line_link : (w l0 l1 : ℕ) → l0 ≤ l1 → Rose l0 l1 → LineCauses w w l0 l1 (Ends status.LinkFault)
line_link w l0 l1 l rose = let same : w ≤ w = omega arith in record { write = λ e. absurd cc; link = λ e. rose; ways = tt; write_later = same; link_later = l; write_still = λ a b. refl; link_still = λ a b. absurd (a refl) }

pub line_none : (w l0 l1 : ℕ) → l0 ≤ l1 → LineCauses w w l0 l1 (Ends status.NoMemory)
line_none w l0 l1 l = let same : w ≤ w = omega arith in record { write = λ e. absurd cc; link = λ e. absurd cc; ways = tt; write_later = same; link_later = l; write_still = λ a b. refl; link_still = λ a b. absurd (b refl) }

pub line_refuses : (w l k : ℕ) (x : Next) → IsRefused k x → LineCauses w w l l x
line_refuses w l k (Ends (status.Script j)) h = let a : w ≤ w = omega arith in let b : l ≤ l = omega arith in record { write = λ e. absurd cc; link = λ e. absurd cc; ways = tt; write_later = a; link_later = b; write_still = λ p q. refl; link_still = λ p q. refl }
line_refuses w l k (Ends status.NoMemory) h = absurd h
line_refuses w l k (Goes q) h = absurd h
line_refuses w l k (Ends status.Done) h = absurd h
line_refuses w l k (Ends (status.Illegal line c)) h = absurd h
line_refuses w l k (Ends status.Words) h = absurd h
line_refuses w l k (Ends status.ReadFault) h = absurd h
line_refuses w l k (Ends status.WriteFault) h = absurd h
line_refuses w l k (Ends status.LinkFault) h = absurd h
line_refuses w l k (Ends (status.Limit v)) h = absurd h

pub refused_next : (k : ℕ) (x : Next) → IsRefused k x → IsNextLine k x
refused_next k (Goes q) h = absurd h
refused_next k (Ends s) h = tt

pub written_next : (n : NodeId) (h : Header) (event k : ℕ) (m : Moved) (before now : Option (List ℕ)) (x : Next) → event ≡ k + 1 → IsWritten n h event m before now x → IsNextLine k x
written_next n h event k m before now (Goes q) e w = ap (λ (r : Run). r.lines) w.1 ∙ e
written_next n h event k m before now (Ends s) e w = tt

pub refused_sound : (k : ℕ) (x : Next) → IsRefused k x → GoesSound x
refused_sound k (Goes q) h = absurd h
refused_sound k (Ends s) h = tt

-- Where the source tells its text.

pub if_any : {X : Type 0} (o : Option X) (P : X → Type 0) → ((x : X) → P x) → IfSome o P
if_any None P h = tt
if_any (Some x) P h = h x

pub if_weaker : {X : Type 0} (o : Option X) (P Q : X → Type 0) → ((x : X) → P x → Q x) → IfSome o P → IfSome o Q
if_weaker None P Q h k = tt
if_weaker (Some x) P Q h k = h x k

-- what following a line gives, by the line and by what came of it
pub line_step : (q : Run) (now later : Seen) (held line : List ℕ) (x y : Next) → held ≡ line → x ≡ y → ((text : List ℕ) (before : Seen) (more : List (List ℕ)) → Follows text before now q (held ∷ more) → Follow text q.id before later more x)
    → (text : List ℕ) (before : Seen) (more : List (List ℕ)) → Follows text before now q (line ∷ more) → Follow text q.id before later more y
line_step q now later held line x y e is h = λ text before more f.
    subst (λ (z : Next). Follow text q.id before later more z) is (h text before more (subst (λ (l : List ℕ). Follows text before now q (l ∷ more)) (sym e) f))

-- an error that is a failure
pub failed : {X : Type 0} (e : IoErr) → e ≡ Failed → ◌≡◌ {A = Result X IoErr} (Err e) (Err Failed)
failed {X} e h = ap (λ (f : IoErr). Err f) h

-- Which comes first.

-- the source failed after the lines that were followed, none of which is outside
followed_whole : (text rest : List ℕ) (left : Option (List ℕ)) (q : Run) (before now : Seen) → Follows text before now q (lines rest) → TakesFeeds (3 + q.lines) (Some text) (Some rest) → TakesFeeds 0 (Some rest) left
    → NoneOutside text left (FirstOutside (lines text) q.id)
followed_whole text rest None q before now f k g = g
followed_whole text rest (Some left) q before now f k g =
    let same : (3 + q.lines) + 0 ≤ 3 + q.lines = omega arith in
    let all = takes_more (Some text) (Some rest) (Some left) (3 + q.lines) 0 (3 + q.lines) same k g in
    let few : feeds all.0 ≤ 3 + q.lines = all.2 in
    let many : q.lines ≡ length f.point.deeds = f.lines in
    (all.0, all.1, λ j le out. out.outside (point_begins text q.id f.point j (omega (arith, le, few, many))))

pub still_first : (first rest left : Option (List ℕ)) (r q : Run) (was now : Seen) (more : ℕ) → q.lines ≡ r.lines + more → StillFollows first rest r was q now → TakesFeeds more first rest → TakesFeeds 0 rest left
    → IfSome first (λ bytes. (text : List ℕ) (before : Seen) → Follows text before was r (lines bytes) → TakesFeeds (3 + r.lines) (Some text) (Some bytes) → NoneOutside text left (FirstOutside (lines text) r.id))
still_first None rest left r q was now more e h k g = tt
still_first (Some bytes) None left r q was now more e h k g = absurd h
still_first (Some bytes) (Some rest) left r q was now more e h k g = λ text before f came.
    let here = h text before f in
    let all : (3 + r.lines) + more ≤ 3 + q.lines = omega (arith, e) in
    subst (λ (n : NodeId). NoneOutside text left (FirstOutside (lines text) n)) here.0
    (followed_whole text rest left q before now here.1 (takes_more (Some text) (Some bytes) (Some rest) (3 + r.lines) more (3 + q.lines) all came k) g)

-- a header was read before
pub header_followed : (left : Option (List ℕ)) (none : List ℕ) (rest after : Option (List ℕ)) (n : NodeId) (h : Header) → none ≡ [] → Opened n (ahead none left) rest (Opens h) → TakesFeeds 3 (ahead none left) rest
    → IfSome rest (λ bytes. (text : List ℕ) → lines text ≡ header_lines h ++ lines bytes → is_declared h n ≡ true → TakesFeeds 3 (Some text) (Some bytes) → NoneOutside text after (FirstOutside (lines text) n))
    → Told left (λ text. NoneOutside text after (FirstOutside (lines text) n))
header_followed None none rest after n h e is took first = tt
header_followed (Some text) none None after n h e is took first = absurd is
header_followed (Some text) none (Some bytes) after n h e is took first =
    let opened = subst (λ (bs : List ℕ). Opened n (Some (bs ++ text)) (Some bytes) (Opens h)) e is in
    first text opened.0 opened.1 (subst (λ (bs : List ℕ). TakesFeeds 3 (Some (bs ++ text)) (Some bytes)) e took)

pub header_failed : (left : Option (List ℕ)) (none : List ℕ) (after : Option (List ℕ)) (n : NodeId) → none ≡ [] → IfSome (ahead none left) (λ text. NoneOutside text after (FirstOutside (lines text) n))
    → Told left (λ text. NoneOutside text after (FirstOutside (lines text) n))
header_failed None none after n e h = tt
header_failed (Some text) none after n e h = subst (λ (bs : List ℕ). NoneOutside (bs ++ text) after (FirstOutside (lines (bs ++ text)) n)) e h
