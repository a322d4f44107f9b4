use Rattle.std.proofs.Common.{◌≡◌, ℕ, ◌+◌, ◌*◌, ◌<◌, drop}
use Rattle.std.specs.Iterator.Adapters.{enumerate_source, enumerate_count}
use Rattle.std.specs.Slice.Iter.{chunks_exact_rest, chunks_exact_size}
use Rattle.machines.specs.Tables.{next}
use Rattle.answers.proofs.table.numbers.stray_edge.Given as goal

abbrev pub invariant-loop-i : goal.invariant-loop-i
invariant-loop-i l =
    (goal.iterator-loop-i).can_next l.i-iterator × (goal.iterator-loop-i).is_finite l.i-iterator
    × record {
      size : chunks_exact_size (enumerate_source l.i-iterator) ≡ l.keys + 1;
      rest : chunks_exact_rest (enumerate_source l.i-iterator) ≡ drop (enumerate_count l.i-iterator * (l.keys + 1)) l.numbers;
      sofar : (j x : ℕ) → j < enumerate_count l.i-iterator → x < l.keys → next l.keys l.numbers j x < l.rows;
    }
