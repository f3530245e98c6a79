-- `misplaced` walks the behaviours. The loop keeps that those that are left give the answer. Assumes nothing.
use mathlib.Core.Bool.{◌&&◌}
use mathlib.Core.List.{[]}
use mathlib.Core.Path.{◌≡◌, sym, ◌∙◌, ap}
use Prim.Native.Nat.{ℕ, ◌+◌}
use native.Mathlib.Omega.{arith}
use borrow.Author.Rules.{rules}
use lib.Dec.{leb}
use lib.ListN.{length, get_or, drop}
use Rattle.node.specs.Lists.{all_of}
use Rattle.rules.proofs.All.{parts}
use Rattle.rules.specs.Behaviours.{code_sound}
use Rattle.behaviours.specs.Codes.{code_in, codes_in}
use Rattle.behaviours.proofs.Codes.{code_length, codes_at, codes_length}
use Rattle.placement.specs.Misplaced.{first_code, line_told, misplaced_from}
use Rattle.placement.proofs.Placed.{misplaced_sound}
use Rattle.placement.proofs.Laws.{from_stop, from_more, from_end}
use Rattle.placement.proofs.misplaced.Goals as goal

pub returns-then-behaviours_sound : goal.returns-then-behaviours_sound
returns-then-behaviours_sound c =
    let args = c.args in
    let codes = codes_in args.count args.lens args.ops in
    let all = sym c.behaviours_sound.ensures ∙ c.if-behaviours_sound.true in
    ap line_told (sym (misplaced_sound args.count first_code codes (parts (leb 1 args.count && leb args.count 8) (all_of (code_sound args.count) codes) all).1))

pub returns-in-Some : goal.returns-in-Some
returns-in-Some c =
    let args = c.args in
    let l = c.loop-k in
    let codes = codes_in args.count args.lens args.ops in
    let size : length codes ≡ args.count = codes_length args.count args.lens args.ops in
    let code = code_in c.unwrap_or-len.result args.ops l.k in
    let len : c.unwrap_or-len.result ≡ get_or args.lens l.k 0 = search rules in
    let at : get_or codes l.k [] ≡ code = codes_at args.count args.lens args.ops l.k c.loop-k-test.true ∙ ap (λ (n : ℕ). code_in n args.ops l.k) (sym len) in
    from_stop codes l.line l.k l.invariant.gives code (omega arith) at c.in-Some.found (sym c.misplaced.ensures ∙ c.in-Some.is)

pub loop-k-preserved : goal.loop-k-preserved
loop-k-preserved c =
    let args = c.args in
    let l = c.loop-k in
    let codes = codes_in args.count args.lens args.ops in
    let size : length codes ≡ args.count = codes_length args.count args.lens args.ops in
    let code = code_in c.unwrap_or-len.result args.ops l.k in
    let len : c.unwrap_or-len.result ≡ get_or args.lens l.k 0 = search rules in
    let at : get_or codes l.k [] ≡ code = codes_at args.count args.lens args.ops l.k c.loop-k-test.true ∙ ap (λ (n : ℕ). code_in n args.ops l.k) (sym len) in record {
      near = omega (arith, l.invariant.near, c.unwrap_or-len.type_inv);
      gives = from_more codes l.line l.k l.invariant.gives code (omega arith) at (sym c.misplaced.ensures ∙ c.in_default.is)
          ∙ ap (λ (n : ℕ). misplaced_from (l.line + 1 + n) (drop (l.k + 1) codes)) (code_length c.unwrap_or-len.result args.ops l.k);
    }

pub returns : goal.returns
returns c =
    let args = c.args in
    let codes = codes_in args.count args.lens args.ops in
    let size : length codes ≡ args.count = codes_length args.count args.lens args.ops in
    ap line_told (from_end codes c.loop-k.line c.loop-k.k c.loop-k.invariant.gives (omega arith))
