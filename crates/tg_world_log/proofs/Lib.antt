mod Sets
mod Current
mod Below
mod Stories
