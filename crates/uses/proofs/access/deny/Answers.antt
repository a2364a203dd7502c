use Rattle.std.proofs.Common.{◌∙◌, length}
use Rattle.uses.specs.FaultFacts.{row_more, each_row, other_row}
use Rattle.uses.specs.AccessLines.{IsGrant}
use Rattle.uses.proofs.GrantsRead.{denials_more}
use Rattle.uses.proofs.access.deny.Goals as goal

pub loop-row-preserved : goal.loop-row-preserved
loop-row-preserved c =
    let rows = c.args.rows.now in
    let i = c.loop-row.row-index in
    let row = c.row-item.result in
    let old = c.args.policy.now in
    let before = c.loop-row.invariant in
    let size = c.revoke.ensures.size in
    let told = rw c.deref.ensures.value at c.in-Some.ensures in
    record {
      size = (size.0 ∙ before.size.0, size.1 ∙ before.size.1);
      denied = denials_more rows i row c.loop-row-test.true c.row-item.is old c.loop-row.policy c.revoke.new.self
          c.in-Some.role c.in-Some.right told.1 c.revoke.ensures.revoked before.denied;
      each = row_more (IsGrant (length old.roles) old.rights) rows i row c.loop-row-test.true c.row-item.is before.each
          (rw (c.rights.ensures.count ∙ before.size.1) at (rw (c.roles.ensures ∙ before.size.0) at told.0));
    }

pub returns-clause-each : goal.returns-clause-each
returns-clause-each c =
    each_row (IsGrant (length c.args.policy.now.roles) c.args.policy.now.rights) c.args.rows.now c.loop-row.row-index
    c.loop-row-test.false c.loop-row.invariant.each

pub returns-in_default-clause-fault : goal.returns-in_default-clause-fault
returns-in_default-clause-fault c =
    let old = c.args.policy.now in
    let before = c.loop-row.invariant in
    other_row (IsGrant (length old.roles) old.rights) c.args.rows.now c.loop-row.row-index c.row-item.result
    c.loop-row-test.true c.row-item.is before.each
    (rw (c.rights.ensures.count
    ∙ before.size.1) at (rw (c.roles.ensures
    ∙ before.size.0) at (rw c.in_default.is at (rw c.deref.ensures.value at c.grant_of.ensures))))
