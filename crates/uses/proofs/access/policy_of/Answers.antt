use Rattle.std.proofs.Common.{◌∙◌}
use Rattle.uses.specs.FaultFacts.{row_more, each_row, other_row}
use Rattle.uses.specs.AccessLines.{IsGrant}
use Rattle.uses.proofs.GrantsRead.{grants_more}
use Rattle.uses.proofs.access.policy_of.Goals as goal

pub loop-row-preserved : goal.loop-row-preserved
loop-row-preserved c =
    let rows = c.args.rows.now in
    let i = c.loop-row.row-index in
    let row = c.row-item.result in
    let before = c.loop-row.invariant in
    let size = c.grant.ensures.size in
    let told = rw c.deref.ensures.value at c.in-Some.ensures in
    record {
      roles = size.0 ∙ before.roles;
      rights = size.1 ∙ before.rights;
      grants = grants_more rows i row c.loop-row-test.true c.row-item.is c.loop-row.policy c.grant.new.self
          c.in-Some.role c.in-Some.right told.1 c.grant.ensures.granted before.grants;
      each = row_more (IsGrant c.args.roles c.args.rights) rows i row c.loop-row-test.true c.row-item.is
          before.each told.0;
    }

pub returns-clause-each : goal.returns-clause-each
returns-clause-each c =
    each_row (IsGrant c.args.roles c.args.rights) c.args.rows.now c.loop-row.row-index c.loop-row-test.false
    c.loop-row.invariant.each

pub returns-in_default-clause-fault : goal.returns-in_default-clause-fault
returns-in_default-clause-fault c =
    other_row (IsGrant c.args.roles c.args.rights) c.args.rows.now c.loop-row.row-index c.row-item.result
    c.loop-row-test.true c.row-item.is c.loop-row.invariant.each
    (rw c.in_default.is at (rw c.deref.ensures.value at c.grant_of.ensures))
