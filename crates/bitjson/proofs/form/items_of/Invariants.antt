use Rattle.std.proofs.Common.{◌≡◌, drop}
use Rattle.std.specs.Result.{result_err}
use Rattle.serde_json.specs.View.{view, items_view}
use Rattle.bitjson.specs.Form.{bytes, bytes_from}
use Rattle.bitjson.proofs.form.items_of.Given as goal

abbrev pub invariant-loop-index : goal.invariant-loop-index
invariant-loop-index l =
    result_err (bytes_from l.index (items_view (drop l.index l.items))) ≡ result_err (bytes (view l.list))
