mod Keeping
mod Refusing
mod Scanning
mod Asking
mod Telling
