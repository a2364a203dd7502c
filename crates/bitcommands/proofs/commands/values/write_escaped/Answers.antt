use Rattle.bitcommands.proofs.Escapes.{letters, of_other, of_control}
use Rattle.std.proofs.Common.{false, arith, rules}
use Rattle.std.proofs.lemmas.Fmt.{hex_byte}
use Rattle.bitcommands.proofs.commands.values.write_escaped.Goals as goal

pub returns-in_default : goal.returns-in_default
returns-in_default g c =
    let t = c.in_default in
    let two = hex_byte false c.args.character (omega arith) in
    rw (of_control c.args.character c.if-character-lt32.true (λ e. omega (arith, t)) (λ e. omega (arith, t))
    (λ e. omega (arith, t)) (λ e. omega (arith, t)) (λ e. omega (arith, t)))
    (rw (c.laid_out.ensures, c.in_radix.ensures, two) at c.write.ensures.writes)

pub returns-in_default-2 : goal.returns-in_default-2
returns-in_default-2 g c =
    let t = c.in_default in
    rw (of_other c.args.character (omega (arith, t)) (λ e. omega (arith, t)) (λ e. omega (arith, t)))
    c.write_char.ensures.writes

pub returns-in-92 : goal.returns-in-92
returns-in-92 g c = search (rules, letters) steps 300000
