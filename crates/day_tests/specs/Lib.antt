-- Parts of a window.
pub mod Window
