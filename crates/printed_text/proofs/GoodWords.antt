-- Each word that is printed is a keyword.
use Rattle.std.proofs.Common.{refl, codes}
use Rattle.wast_tokens.specs.Chars.{is_id_char}
use Rattle.print_table.specs.Tokens as printed
use Rattle.printed_text.specs.ReadTokens.{IsGood}

pub w_alias : IsGood (printed.word (codes "alias"))
unfolding is_id_char
w_alias = refl

pub w_async : IsGood (printed.word (codes "async"))
unfolding is_id_char
w_async = refl

pub w_backpressure_dec : IsGood (printed.word (codes "backpressure.dec"))
unfolding is_id_char
w_backpressure_dec = refl

pub w_backpressure_inc : IsGood (printed.word (codes "backpressure.inc"))
unfolding is_id_char
w_backpressure_inc = refl

pub w_bool : IsGood (printed.word (codes "bool"))
unfolding is_id_char
w_bool = refl

pub w_borrow : IsGood (printed.word (codes "borrow"))
unfolding is_id_char
w_borrow = refl

pub w_callback : IsGood (printed.word (codes "callback"))
unfolding is_id_char
w_callback = refl

pub w_canon : IsGood (printed.word (codes "canon"))
unfolding is_id_char
w_canon = refl

pub w_case : IsGood (printed.word (codes "case"))
unfolding is_id_char
w_case = refl

pub w_char : IsGood (printed.word (codes "char"))
unfolding is_id_char
w_char = refl

pub w_component : IsGood (printed.word (codes "component"))
unfolding is_id_char
w_component = refl

pub w_context_get : IsGood (printed.word (codes "context.get"))
unfolding is_id_char
w_context_get = refl

pub w_context_set : IsGood (printed.word (codes "context.set"))
unfolding is_id_char
w_context_set = refl

pub w_core : IsGood (printed.word (codes "core"))
unfolding is_id_char
w_core = refl

pub w_dtor : IsGood (printed.word (codes "dtor"))
unfolding is_id_char
w_dtor = refl

pub w_enum : IsGood (printed.word (codes "enum"))
unfolding is_id_char
w_enum = refl

pub w_eq : IsGood (printed.word (codes "eq"))
unfolding is_id_char
w_eq = refl

pub w_error : IsGood (printed.word (codes "error"))
unfolding is_id_char
w_error = refl

pub w_error_context : IsGood (printed.word (codes "error-context"))
unfolding is_id_char
w_error_context = refl

pub w_error_context_debug_message : IsGood (printed.word (codes "error-context.debug-message"))
unfolding is_id_char
w_error_context_debug_message = refl

pub w_error_context_drop : IsGood (printed.word (codes "error-context.drop"))
unfolding is_id_char
w_error_context_drop = refl

pub w_error_context_new : IsGood (printed.word (codes "error-context.new"))
unfolding is_id_char
w_error_context_new = refl

pub w_export : IsGood (printed.word (codes "export"))
unfolding is_id_char
w_export = refl

pub w_extern : IsGood (printed.word (codes "extern"))
unfolding is_id_char
w_extern = refl

pub w_externref : IsGood (printed.word (codes "externref"))
unfolding is_id_char
w_externref = refl

pub w_f32 : IsGood (printed.word (codes "f32"))
unfolding is_id_char
w_f32 = refl

pub w_f64 : IsGood (printed.word (codes "f64"))
unfolding is_id_char
w_f64 = refl

pub w_field : IsGood (printed.word (codes "field"))
unfolding is_id_char
w_field = refl

pub w_flags : IsGood (printed.word (codes "flags"))
unfolding is_id_char
w_flags = refl

pub w_func : IsGood (printed.word (codes "func"))
unfolding is_id_char
w_func = refl

pub w_funcref : IsGood (printed.word (codes "funcref"))
unfolding is_id_char
w_funcref = refl

pub w_future : IsGood (printed.word (codes "future"))
unfolding is_id_char
w_future = refl

pub w_future_cancel_read : IsGood (printed.word (codes "future.cancel-read"))
unfolding is_id_char
w_future_cancel_read = refl

pub w_future_cancel_write : IsGood (printed.word (codes "future.cancel-write"))
unfolding is_id_char
w_future_cancel_write = refl

pub w_future_drop_readable : IsGood (printed.word (codes "future.drop-readable"))
unfolding is_id_char
w_future_drop_readable = refl

pub w_future_drop_writable : IsGood (printed.word (codes "future.drop-writable"))
unfolding is_id_char
w_future_drop_writable = refl

pub w_future_new : IsGood (printed.word (codes "future.new"))
unfolding is_id_char
w_future_new = refl

pub w_future_read : IsGood (printed.word (codes "future.read"))
unfolding is_id_char
w_future_read = refl

pub w_future_write : IsGood (printed.word (codes "future.write"))
unfolding is_id_char
w_future_write = refl

pub w_global : IsGood (printed.word (codes "global"))
unfolding is_id_char
w_global = refl

pub w_i32 : IsGood (printed.word (codes "i32"))
unfolding is_id_char
w_i32 = refl

pub w_i64 : IsGood (printed.word (codes "i64"))
unfolding is_id_char
w_i64 = refl

pub w_import : IsGood (printed.word (codes "import"))
unfolding is_id_char
w_import = refl

pub w_instance : IsGood (printed.word (codes "instance"))
unfolding is_id_char
w_instance = refl

pub w_instantiate : IsGood (printed.word (codes "instantiate"))
unfolding is_id_char
w_instantiate = refl

pub w_lift : IsGood (printed.word (codes "lift"))
unfolding is_id_char
w_lift = refl

pub w_list : IsGood (printed.word (codes "list"))
unfolding is_id_char
w_list = refl

pub w_lower : IsGood (printed.word (codes "lower"))
unfolding is_id_char
w_lower = refl

pub w_memory : IsGood (printed.word (codes "memory"))
unfolding is_id_char
w_memory = refl

pub w_module : IsGood (printed.word (codes "module"))
unfolding is_id_char
w_module = refl

pub w_mut : IsGood (printed.word (codes "mut"))
unfolding is_id_char
w_mut = refl

pub w_null : IsGood (printed.word (codes "null"))
unfolding is_id_char
w_null = refl

pub w_option : IsGood (printed.word (codes "option"))
unfolding is_id_char
w_option = refl

pub w_outer : IsGood (printed.word (codes "outer"))
unfolding is_id_char
w_outer = refl

pub w_own : IsGood (printed.word (codes "own"))
unfolding is_id_char
w_own = refl

pub w_param : IsGood (printed.word (codes "param"))
unfolding is_id_char
w_param = refl

pub w_post_return : IsGood (printed.word (codes "post-return"))
unfolding is_id_char
w_post_return = refl

pub w_realloc : IsGood (printed.word (codes "realloc"))
unfolding is_id_char
w_realloc = refl

pub w_rec : IsGood (printed.word (codes "rec"))
unfolding is_id_char
w_rec = refl

pub w_record : IsGood (printed.word (codes "record"))
unfolding is_id_char
w_record = refl

pub w_ref : IsGood (printed.word (codes "ref"))
unfolding is_id_char
w_ref = refl

pub w_rep : IsGood (printed.word (codes "rep"))
unfolding is_id_char
w_rep = refl

pub w_resource : IsGood (printed.word (codes "resource"))
unfolding is_id_char
w_resource = refl

pub w_resource_drop : IsGood (printed.word (codes "resource.drop"))
unfolding is_id_char
w_resource_drop = refl

pub w_resource_new : IsGood (printed.word (codes "resource.new"))
unfolding is_id_char
w_resource_new = refl

pub w_resource_rep : IsGood (printed.word (codes "resource.rep"))
unfolding is_id_char
w_resource_rep = refl

pub w_result : IsGood (printed.word (codes "result"))
unfolding is_id_char
w_result = refl

pub w_s16 : IsGood (printed.word (codes "s16"))
unfolding is_id_char
w_s16 = refl

pub w_s32 : IsGood (printed.word (codes "s32"))
unfolding is_id_char
w_s32 = refl

pub w_s64 : IsGood (printed.word (codes "s64"))
unfolding is_id_char
w_s64 = refl

pub w_s8 : IsGood (printed.word (codes "s8"))
unfolding is_id_char
w_s8 = refl

pub w_start : IsGood (printed.word (codes "start"))
unfolding is_id_char
w_start = refl

pub w_stream : IsGood (printed.word (codes "stream"))
unfolding is_id_char
w_stream = refl

pub w_stream_cancel_read : IsGood (printed.word (codes "stream.cancel-read"))
unfolding is_id_char
w_stream_cancel_read = refl

pub w_stream_cancel_write : IsGood (printed.word (codes "stream.cancel-write"))
unfolding is_id_char
w_stream_cancel_write = refl

pub w_stream_drop_readable : IsGood (printed.word (codes "stream.drop-readable"))
unfolding is_id_char
w_stream_drop_readable = refl

pub w_stream_drop_writable : IsGood (printed.word (codes "stream.drop-writable"))
unfolding is_id_char
w_stream_drop_writable = refl

pub w_stream_new : IsGood (printed.word (codes "stream.new"))
unfolding is_id_char
w_stream_new = refl

pub w_stream_read : IsGood (printed.word (codes "stream.read"))
unfolding is_id_char
w_stream_read = refl

pub w_stream_write : IsGood (printed.word (codes "stream.write"))
unfolding is_id_char
w_stream_write = refl

pub w_string : IsGood (printed.word (codes "string"))
unfolding is_id_char
w_string = refl

pub w_string_encoding_latin1_utf16 : IsGood (printed.word (codes "string-encoding=latin1+utf16"))
unfolding is_id_char
w_string_encoding_latin1_utf16 = refl

pub w_string_encoding_utf16 : IsGood (printed.word (codes "string-encoding=utf16"))
unfolding is_id_char
w_string_encoding_utf16 = refl

pub w_string_encoding_utf8 : IsGood (printed.word (codes "string-encoding=utf8"))
unfolding is_id_char
w_string_encoding_utf8 = refl

pub w_sub : IsGood (printed.word (codes "sub"))
unfolding is_id_char
w_sub = refl

pub w_subtask_cancel : IsGood (printed.word (codes "subtask.cancel"))
unfolding is_id_char
w_subtask_cancel = refl

pub w_subtask_drop : IsGood (printed.word (codes "subtask.drop"))
unfolding is_id_char
w_subtask_drop = refl

pub w_table : IsGood (printed.word (codes "table"))
unfolding is_id_char
w_table = refl

pub w_tag : IsGood (printed.word (codes "tag"))
unfolding is_id_char
w_tag = refl

pub w_task_cancel : IsGood (printed.word (codes "task.cancel"))
unfolding is_id_char
w_task_cancel = refl

pub w_task_return : IsGood (printed.word (codes "task.return"))
unfolding is_id_char
w_task_return = refl

pub w_thread_available_parallelism : IsGood (printed.word (codes "thread.available-parallelism"))
unfolding is_id_char
w_thread_available_parallelism = refl

pub w_thread_spawn_indirect : IsGood (printed.word (codes "thread.spawn-indirect"))
unfolding is_id_char
w_thread_spawn_indirect = refl

pub w_thread_spawn_ref : IsGood (printed.word (codes "thread.spawn-ref"))
unfolding is_id_char
w_thread_spawn_ref = refl

pub w_tuple : IsGood (printed.word (codes "tuple"))
unfolding is_id_char
w_tuple = refl

pub w_type : IsGood (printed.word (codes "type"))
unfolding is_id_char
w_type = refl

pub w_u16 : IsGood (printed.word (codes "u16"))
unfolding is_id_char
w_u16 = refl

pub w_u32 : IsGood (printed.word (codes "u32"))
unfolding is_id_char
w_u32 = refl

pub w_u64 : IsGood (printed.word (codes "u64"))
unfolding is_id_char
w_u64 = refl

pub w_u8 : IsGood (printed.word (codes "u8"))
unfolding is_id_char
w_u8 = refl

pub w_v128 : IsGood (printed.word (codes "v128"))
unfolding is_id_char
w_v128 = refl

pub w_value : IsGood (printed.word (codes "value"))
unfolding is_id_char
w_value = refl

pub w_variant : IsGood (printed.word (codes "variant"))
unfolding is_id_char
w_variant = refl

pub w_waitable_set_drop : IsGood (printed.word (codes "waitable-set.drop"))
unfolding is_id_char
w_waitable_set_drop = refl

pub w_waitable_set_new : IsGood (printed.word (codes "waitable-set.new"))
unfolding is_id_char
w_waitable_set_new = refl

pub w_waitable_join : IsGood (printed.word (codes "waitable.join"))
unfolding is_id_char
w_waitable_join = refl

pub w_with : IsGood (printed.word (codes "with"))
unfolding is_id_char
w_with = refl
