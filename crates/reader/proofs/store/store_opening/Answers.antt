use Rattle.std.proofs.Common.{◌≡◌, ℕ, ◌+◌, ◌-◌, ◌≤◌, true, ltb, ◌++◌, length, take, drop, replicate, refl, ap, ◌∙◌, arith}
use Rattle.std.proofs.lemmas.Bool.{lt-ltb}
use Rattle.std.proofs.lemmas.List.{length-append, length-drop, length-replicate, length-take-le, take_rest}
use Rattle.std.proofs.lemmas.Option.{MatchOption-at_some}
use Rattle.reader.proofs.Stores.{opened}
use Rattle.reader.proofs.store.store_opening.Goals as goal

pub returns-clause-stored : goal.returns-clause-stored
returns-clause-stored c =
    let t = c.in-Some.t in
    let share = c.args.share.now in
    let line = c.args.line.now in
    let text = take (length line - t) (drop t line) in
    let whole = c.fill.new.self ++ drop t share in
    let h : t ≤ length line = MatchOption-at_some (Unit {0}) (λ (x : ℕ). x ≤ length line) t c.in-Some.is c.requires.inside in
    let f : c.fill.new.self ≡ replicate {A = ℕ} (length (take t share)) 32 = c.fill.ensures.after (λ y e. e) in
    let n = length-take-le t share (omega arith) in
    let spaces : c.fill.new.self ≡ replicate {A = ℕ} t 32 = f ∙ ap (λ (k : ℕ). replicate {A = ℕ} k 32) n in
    let e = opened share line c.fill.new.self text t t refl spaces (take_rest line t) h (omega arith) in
    let size : length c.fill.new.self ≡ t = ap length spaces ∙ length-replicate t 32 in
    let room : ltb (t + length text) (length whole) ≡ true =
    lt-ltb (t + length text) (length whole) (omega (arith, ap length (take_rest line t), length-drop t line, size, length-drop t share, length-append c.fill.new.self (drop t share))) in
    rw c.in-Some.is (c.put_line.ensures.written ∙ (rw room e.1))
