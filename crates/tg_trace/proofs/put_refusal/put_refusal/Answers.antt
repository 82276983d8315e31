use Rattle.tg_trace.proofs.put_refusal.put_refusal.Goals as goal

pub returns-in-NoReplica : goal.returns-in-NoReplica
returns-in-NoReplica c = rw c.in-NoReplica.is c.put_stripe.ensures

pub returns-in-OpenDecision : goal.returns-in-OpenDecision
returns-in-OpenDecision c = rw c.in-OpenDecision.is c.put_one-in-OpenDecision.ensures

pub returns-in-NotClosed : goal.returns-in-NotClosed
returns-in-NotClosed c = rw c.in-NotClosed.is c.put_size-in-NotClosed.ensures

pub returns-in-NotRegistered : goal.returns-in-NotRegistered
returns-in-NotRegistered c = rw c.in-NotRegistered.is c.put_one-in-NotRegistered.ensures

pub returns-in-WrongKind : goal.returns-in-WrongKind
returns-in-WrongKind c = rw c.in-WrongKind.is c.put_one-in-WrongKind.ensures

pub returns-in-LogFull : goal.returns-in-LogFull
returns-in-LogFull c = rw c.in-LogFull.is c.put_one-in-LogFull.ensures

pub returns-in-Overtaken : goal.returns-in-Overtaken
returns-in-Overtaken c = rw c.in-Overtaken.is c.put_one-in-Overtaken.ensures

pub returns-in-NoCheckpoint : goal.returns-in-NoCheckpoint
returns-in-NoCheckpoint c = rw c.in-NoCheckpoint.is c.put_one-in-NoCheckpoint.ensures

pub returns-in-Ahead : goal.returns-in-Ahead
returns-in-Ahead c = rw c.in-Ahead.is c.put_one-in-Ahead.ensures
